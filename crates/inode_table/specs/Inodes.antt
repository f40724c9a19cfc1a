-- The inodes in use: a finite map from gfid to kind, set and count.
use Rattle.std.specs.Prelude.{◌≡◌, ℕ, zero, suc, ◌+◌, ◌-◌, ◌<◌, nat_le, if◌then◌else◌, Option, None, Some, refl}
use Rattle.std.specs.Coded.{Coded, code_by, coded×, coded_ℕ}
use Rattle.std.specs.FinMap as map
use Rattle.fop_types.specs.Orders.{gfid_cmp}
use Rattle.fop_types.specs.declared.cells.Gfid.{Gfid}
use Rattle.fop_types.specs.declared.cells.Kind.{Kind}
use Rattle.fop_types.specs.declared.cells.Kind.TheVariants.{File, Dir, Link}
use Rattle.inode_table.specs.declared.inode.Inode.{Inode}

-- the inodes in use, by gfid
abbrev pub Inodes : Type 0
Inodes = map.FinMap gfid_cmp Inode

-- the inode of a gfid, None where the gfid is not in use
abbrev pub inode_at : Inodes → Gfid → Option Inode
inode_at inodes gfid = map.get inodes gfid

-- what a link makes of an entry: one more reference, and the first one where there is no entry
abbrev pub linked : Kind → ℕ → Option Inode → Inode
linked kind set None = record { kind = kind; set = set; held = 1 }
linked kind set (Some inode) = record inode { held = inode.held + 1 }

-- the table with one more reference to the gfid; every other entry is as before
abbrev pub with_link : Inodes → Gfid → Kind → ℕ → Inodes
with_link inodes gfid kind set = map.insert inodes gfid (linked kind set (inode_at inodes gfid))

-- the table with one reference less to the gfid, whose entry this is
abbrev pub release_of : Inodes → Gfid → Option Inode → Inodes
release_of inodes gfid None = inodes
release_of inodes gfid (Some inode) =
    if nat_le inode.held 1 then map.remove inodes gfid else map.insert inodes gfid (record inode { held = inode.held - 1 })

-- the table with one reference less to the gfid: the entry goes with the last one, and nothing changes
-- where there is no entry; every other entry is as before
abbrev pub with_release : Inodes → Gfid → Inodes
with_release inodes gfid = release_of inodes gfid (inode_at inodes gfid)

-- a link is in order: an entry has the same kind, and its count can rise
abbrev pub CanLink : Kind → Option Inode → Type 0
CanLink kind None = Unit {0}
CanLink kind (Some inode) = (inode.kind ≡ kind) × (inode.held < 4294967295)

-- how one table is distinguished from another: by its entries, as numbers
abbrev pub kind_number : Kind → ℕ
kind_number File = 0
kind_number Dir = 1
kind_number Link = 2

abbrev pub kind_numbered : ℕ → Kind
kind_numbered zero = File
kind_numbered (suc zero) = Dir
kind_numbered (suc (suc _)) = Link

pub kind_again : (kind : Kind) → kind_numbered (kind_number kind) ≡ kind
kind_again File = refl
kind_again Dir = refl
kind_again Link = refl

abbrev pub kind_code : Coded Kind
kind_code = code_by ℕ coded_ℕ kind_number kind_numbered kind_again

abbrev pub gfid_code : Coded Gfid
gfid_code = code_by (ℕ × ℕ) (coded× coded_ℕ coded_ℕ) (λ g. (g.hi, g.lo)) (λ p. record { hi = p.0; lo = p.1 }) (λ _. refl)

abbrev pub inode_code : Coded Inode
inode_code = code_by (Kind × (ℕ × ℕ)) (coded× kind_code (coded× coded_ℕ coded_ℕ)) (λ i. (i.kind, (i.set, i.held))) (λ p. record { kind = p.0; set = p.1.0; held = p.1.1 }) (λ _. refl)

abbrev pub inodes_code : Coded Inodes
inodes_code = map.code gfid_code inode_code
