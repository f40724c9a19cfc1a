-- Which plans may follow those so far, the current one last, and which descriptors a new graph opens again.
-- Ours; GlusterFS compares volfiles in glusterfs_volfile_reconfigure and opens descriptors again in
-- fuse_migrate_fd.
use Rattle.std.specs.Prelude.{◌-◌, ◌&&◌, Bool, true, List, map, length, drop, Option, Some, None, slice_get}
use Rattle.std.specs.List.{list_all}
use Rattle.std.specs.FinMap as fin
use Rattle.fop_types.specs.declared.jobs.SetPlan.{SetPlan}
use Rattle.graph_build.specs.declared.plans.Plan.{Plan}
use Rattle.graph_build.specs.Follows.{is_new, sets_follow}
use Rattle.fd_table.specs.declared.fd.FdKey.{FdKey}
use Rattle.fd_table.specs.declared.fd.Fd.{Fd}
use Rattle.fd_table.specs.Fds.{Fds}
use Rattle.graph_switch.specs.declared.reopening.Reopen.{Reopen}

-- no plan has a brick of one of these sets
abbrev pub are_unused : List Plan → List SetPlan → Bool
are_unused plans sets = list_all (λ p. list_all (is_new p.sets) sets) plans

-- the current plan, None before the first
abbrev pub current : List Plan → Option Plan
current plans = slice_get plans (length plans - 1)

abbrev pub may_follow_current : List Plan → Option Plan → Plan → Bool
may_follow_current plans None new = true
may_follow_current plans (Some p) new = sets_follow p.sets p.sets new.sets && are_unused plans (drop (length p.sets) new.sets)

-- A plan may follow where it follows the current one, and no plan so far has a brick of a set that it adds.
-- The first plan may always be.
abbrev pub may_follow : List Plan → Plan → Bool
may_follow plans new = may_follow_current plans (current plans) new

abbrev pub reopen_of : FdKey × Fd → Reopen
reopen_of e = record { session = e.0.session; fd = e.0.fd; gfid = e.1.gfid; set = e.1.set }

-- every open descriptor, by session and then by number
abbrev pub reopens : Fds → List Reopen
reopens fds = map reopen_of (fin.entries fds)
