-- The line that is written for a refusal, with the names of the kinds.
use Rattle.std.specs.Prelude.{ℕ, List, ◌++◌, codes}
use Rattle.std.specs.Fmt.{decimal}
use Rattle.volfile.specs.declared.errors.VolKind.{VolKind}
use Rattle.volfile.specs.declared.errors.VolKind.TheVariants as vol
use Rattle.script_lang.specs.declared.errors.ScriptKind.{ScriptKind}
use Rattle.script_lang.specs.declared.errors.ScriptKind.TheVariants as kind
use Rattle.graph_build.specs.declared.errors.PlanKind.{PlanKind}
use Rattle.graph_build.specs.declared.errors.PlanKind.TheVariants as plan
use Rattle.script_commands.specs.declared.refusals.Refusal.{Refusal}
use Rattle.script_commands.specs.declared.refusals.Refusal.TheVariants.{OfScript, OfPlan}

abbrev pub vol_text : VolKind → List ℕ
vol_text vol.BadByte = codes "VolBadByte"
vol_text vol.Backquote = codes "VolBackquote"
vol_text vol.OpenQuote = codes "VolOpenQuote"
vol_text vol.Unexpected = codes "VolUnexpected"
vol_text vol.WordCount = codes "VolWordCount"
vol_text vol.BadWord = codes "VolBadWord"
vol_text vol.Repeated = codes "VolRepeated"
vol_text vol.UnknownSubvolume = codes "VolUnknownSubvolume"
vol_text vol.MissingType = codes "VolMissingType"
vol_text vol.TooMany = codes "VolTooMany"
vol_text vol.Unclosed = codes "VolUnclosed"
vol_text vol.Empty = codes "VolEmpty"

abbrev pub script_text : ScriptKind → List ℕ
script_text kind.BadByte = codes "BadByte"
script_text kind.LongLine = codes "LongLine"
script_text kind.Unexpected = codes "Unexpected"
script_text kind.WordCount = codes "WordCount"
script_text kind.BadWord = codes "BadWord"
script_text kind.Repeated = codes "Repeated"
script_text kind.Unknown = codes "Unknown"
script_text kind.TooMany = codes "TooMany"
script_text kind.TwoGreat = codes "TwoGreat"
script_text kind.Unclosed = codes "Unclosed"
script_text kind.NoStart = codes "NoStart"
script_text kind.NotFollowing = codes "NotFollowing"
script_text kind.TooLong = codes "TooLong"
script_text (kind.Vol inner) = vol_text inner
script_text kind.Later = codes "Later"

abbrev pub plan_text : PlanKind → List ℕ
plan_text plan.UnknownKind = codes "PlanUnknownKind"
plan_text plan.SubvolumeCount = codes "PlanSubvolumeCount"
plan_text plan.BadReplica = codes "PlanBadReplica"
plan_text plan.NotAuto = codes "PlanNotAuto"
plan_text plan.NoBrick = codes "PlanNoBrick"
plan_text plan.BrickTwice = codes "PlanBrickTwice"
plan_text plan.BadOption = codes "PlanBadOption"
plan_text plan.UsedTwice = codes "PlanUsedTwice"
plan_text plan.NestedCluster = codes "PlanNestedCluster"
plan_text plan.TooDeep = codes "PlanTooDeep"
plan_text plan.Unused = codes "PlanUnused"

-- fault line L KIND
abbrev pub fault_of : ℕ → List ℕ → List ℕ
fault_of line text = codes "fault line " ++ decimal line ++ codes " " ++ text ++ codes "\n"

abbrev pub fault_text : Refusal → List ℕ
fault_text (OfScript line kind) = fault_of line (script_text kind)
fault_text (OfPlan line kind) = fault_of line (plan_text kind)
