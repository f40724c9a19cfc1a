-- A script that was read, run by a seed, and reported, is a text's run by that seed.
use Rattle.std.proofs.Common.{refl}
use Rattle.std.specs.Prelude.{ℕ, List, Option}
use Rattle.hub_calls.specs.declared.racks.Rack.{Rack}
use Rattle.script_commands.specs.Readings.{IsAccepted}
use Rattle.script_commands.specs.declared.plans.Accepted.{Accepted}
use Rattle.run_commands.specs.Seeds.{IsSeeded}
use Rattle.run_commands.specs.Written.{text_of, IsWritten, IsCutShort}
use Rattle.mount_run.specs.Outcomes.{RanBySeed, RanBySeedUnwritten}

module _ (seed : ℕ) (known taken taken_after : Option (List ℕ)) (rack : Rack) (read : Accepted) (is_read : IsAccepted known read) (of_seed : IsSeeded seed read.script read.plans rack) where
  pub ran_by_seed : IsWritten read.script read.plans taken taken_after rack → RanBySeed seed known taken taken_after rack
  ran_by_seed ran = record {
    text = is_read.text;
    report = text_of read.script read.plans rack;
    read = is_read.is_text;
    headline = record { read = read; accepted_as = is_read.accepted_as; run = ran.run; written = refl };
    wrote = ran.wrote;
    seeded = of_seed;
  }

  pub cut_short : IsCutShort read.script read.plans taken taken_after rack → RanBySeedUnwritten seed known taken taken_after rack
  cut_short ran = record {
    text = is_read.text;
    report = text_of read.script read.plans rack;
    read = is_read.is_text;
    headline = record { read = read; accepted_as = is_read.accepted_as; run = ran.run; written = refl };
    wrote = ran.wrote;
    seeded = of_seed;
  }
