-- Every fop keeps bounds, and replies that answer their jobs have them.
use Rattle.std.proofs.Common.{◌≡◌, ℕ, ◌≤◌, Bool, true, List, [], ◌∷◌, Option, Some, None, IfSome, length, arith}
use Rattle.dht_fops.proofs.AskFops.{asks_well}
use Rattle.dht_fops.specs.Bounds.{NamesObject, KeepsBounds, FopsKeepBounds, AnswersHaveBounds}
use Rattle.dht_fops.specs.Courses.{Course}
use Rattle.dht_fops.specs.Courses.Course.{Asks, Extends, Ends}
use Rattle.dht_fops.specs.Founded.{AsksWell, IsWellFound}
use Rattle.dht_fops.specs.Fops.{fop_course}
use Rattle.dht_fops.specs.Handed.{Handed, HaveBounds}
use Rattle.dht_fops.specs.Handed.Event.{Replied, Held}
use Rattle.dht_fops.specs.code.Fops.{course_on, GivesOneJob}
use Rattle.dht_fops.specs.code.Within.{IsNextWithin, WaitsWithin, CoursesKeepFops}
use Rattle.dht_fops.specs.declared.dht_fop.DhtFop.{DhtFop}
use Rattle.dht_fops.specs.declared.step.DhtNext.{DhtNext}
use Rattle.dht_fops.specs.declared.step.DhtNext.TheVariants as next
use Rattle.fop_types.specs.Bounds.{Each, IsContent}
use Rattle.fop_types.specs.Jobs.{AreContentsOf, AnswersRead, AnswersChange, AnswersOpen, AnswersIndex, AnswersHeal, IsAnsweredBy, may_lack, IsSetReply}
use Rattle.fop_types.specs.declared.answers.FopAnswer.{FopAnswer}
use Rattle.fop_types.specs.declared.answers.FopAnswer.TheVariants.{Found, Call}
use Rattle.fop_types.specs.declared.cells.Cell.{Cell}
use Rattle.fop_types.specs.declared.contents.Content.{Content}
use Rattle.fop_types.specs.declared.history.Entry.{Entry}
use Rattle.fop_types.specs.declared.jobs.Job.{Job}
use Rattle.fop_types.specs.declared.jobs.Job.TheVariants as job
use Rattle.fop_types.specs.declared.jobs.SetReply.{SetReply}
use Rattle.fop_types.specs.declared.jobs.SetReply.TheVariants as reply

-- ---- courses

found_within : (n : ℕ) (handed : Handed) (answer : FopAnswer) (place : Option ℕ) → IsWellFound n handed answer place → HaveBounds handed → NamesObject n answer
found_within n handed (Found set gfid kind) place f b = (f.0, f.1 b)
found_within n handed (Call answer) place f b = tt

keeps : (n : ℕ) (handed : Handed) (course : Course) → AsksWell n handed course → HaveBounds handed → KeepsBounds n course
keeps n handed (Asks set job next) a b = (a.0.within, a.0.whole b, λ reply r. keeps n (Replied set job reply ∷ handed) (next reply) (a.1 reply) (r, b))
keeps n handed (Extends dir next) a b = (a.0 b, keeps n (Held dir ∷ handed) next a.1 (tt, b))
keeps n handed (Ends answer place) a b = found_within n handed answer place a b

pub fops_keep : FopsKeepBounds
fops_keep = λ v names kept f some within e each on b. keeps v.sets [] (fop_course v names kept f) (asks_well v names kept f some within e each on b) tt

-- ---- fops under way

jobs_within : (n : ℕ) (fop : DhtFop) (jobs : List (ℕ × Job)) → length jobs ≡ 1 → KeepsBounds n (course_on fop (next.Jobs jobs)) → IsNextWithin n (next.Jobs jobs) × WaitsWithin n fop (next.Jobs jobs)
jobs_within n fop [] one k = absurd (omega arith)
jobs_within n fop (asked ∷ []) one k = (((k.0, k.1), tt), k.2)
jobs_within n fop (asked ∷ (other ∷ jobs)) one k = absurd (omega arith)

pub fops_within : (n : ℕ) (fop : DhtFop) (given : DhtNext) → GivesOneJob given → KeepsBounds n (course_on fop given) → IsNextWithin n given × WaitsWithin n fop given
fops_within n fop (next.Jobs jobs) one k = jobs_within n fop jobs one k
fops_within n fop (next.Hold dir) one k = k
fops_within n fop (next.Done answer place) one k = (k, tt)

-- ---- replies

contents_bounded : (may : Bool) (cells : List Cell) (contents : List (Option Content)) → AreContentsOf may cells contents → Each (λ (content : Option Content). IfSome content (IsContent true)) contents
contents_bounded may [] [] a = tt
contents_bounded may [] (content ∷ contents) a = absurd a
contents_bounded may (cell ∷ cells) [] a = absurd a
contents_bounded may (cell ∷ cells) (None ∷ contents) a = (tt, contents_bounded may cells contents a.1)
contents_bounded may (cell ∷ cells) (Some content ∷ contents) a = (a.0.1, contents_bounded may cells contents a.1)

read_bounded : (set : ℕ) (cells : List Cell) (may : Bool) (r : SetReply) → AnswersRead set cells may r → IsSetReply r
read_bounded set cells may (reply.Contents contents place) a = contents_bounded may cells contents a
read_bounded set cells may (reply.Decided number) a = tt
read_bounded set cells may reply.Opened a = tt
read_bounded set cells may (reply.Listed listed group short) a = absurd a
read_bounded set cells may (reply.Healed records) a = tt
read_bounded set cells may (reply.Skipped cause) a = tt
read_bounded set cells may (reply.Io error) a = tt

change_bounded : (set : ℕ) (effect : Option Entry) (r : SetReply) → AnswersChange set effect r → IsSetReply r
change_bounded set effect (reply.Contents contents place) a = absurd a
change_bounded set effect (reply.Decided number) a = tt
change_bounded set effect reply.Opened a = tt
change_bounded set effect (reply.Listed listed group short) a = absurd a
change_bounded set effect (reply.Healed records) a = tt
change_bounded set effect (reply.Skipped cause) a = tt
change_bounded set effect (reply.Io error) a = tt

open_bounded : (set : ℕ) (r : SetReply) → AnswersOpen set r → IsSetReply r
open_bounded set (reply.Contents contents place) a = absurd a
open_bounded set (reply.Decided number) a = tt
open_bounded set reply.Opened a = tt
open_bounded set (reply.Listed listed group short) a = absurd a
open_bounded set (reply.Healed records) a = tt
open_bounded set (reply.Skipped cause) a = tt
open_bounded set (reply.Io error) a = tt

index_bounded : (set q : ℕ) (r : SetReply) → AnswersIndex set q r → IsSetReply r
index_bounded set q (reply.Contents contents place) a = absurd a
index_bounded set q (reply.Decided number) a = tt
index_bounded set q reply.Opened a = tt
index_bounded set q (reply.Listed listed group short) a = a.0
index_bounded set q (reply.Healed records) a = tt
index_bounded set q (reply.Skipped cause) a = tt
index_bounded set q (reply.Io error) a = tt

heal_bounded : (cell : Cell) (r : SetReply) → AnswersHeal cell r → IsSetReply r
heal_bounded cell (reply.Contents contents place) a = absurd a
heal_bounded cell (reply.Decided number) a = tt
heal_bounded cell reply.Opened a = tt
heal_bounded cell (reply.Listed listed group short) a = absurd a
heal_bounded cell (reply.Healed records) a = tt
heal_bounded cell (reply.Skipped cause) a = tt
heal_bounded cell (reply.Io error) a = tt

pub answers_bounded : (set q : ℕ) (j : Job) (r : SetReply) → IsAnsweredBy set q j r → IsSetReply r
answers_bounded set q (job.Read cells fd dir) r a = read_bounded set cells (may_lack set dir) r a
answers_bounded set q (job.Change cells fd o effect) r a = change_bounded set effect r a
answers_bounded set q (job.Birth cells o) r a = change_bounded set None r a
answers_bounded set q (job.Open fd gfid) r a = open_bounded set r a
answers_bounded set q job.Index r a = index_bounded set q r a
answers_bounded set q (job.Heal cell) r a = heal_bounded cell r a
