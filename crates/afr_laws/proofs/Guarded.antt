-- What every state keeps, put together.
use Rattle.afr_laws.specs.Guarded.{EveryStateKeepsLines}
use Rattle.afr_laws.proofs.Flying.{on_their_way}
use Rattle.afr_laws.proofs.HeldApart.{held_apart}
use Rattle.afr_laws.proofs.ConnectsFirst.{connects_come_first}
use Rattle.afr_laws.proofs.Waiting.{waits_fit}
use Rattle.afr_laws.proofs.Grants.{grants_are_held}
use Rattle.afr_laws.proofs.Apart.Steps.{grants_apart}
use Rattle.afr_laws.proofs.Asking.Steps.{asks_are_of_phases}
use Rattle.afr_laws.proofs.Asking.Answers.{answers_come}

pub keeps_lines : EveryStateKeepsLines
keeps_lines size m reached = record { on_their_way = on_their_way size m reached; held_apart = held_apart size m reached; connects_first = connects_come_first size m reached; waits_fit = waits_fit size m reached; grants_held = grants_are_held size m reached; grants_apart = grants_apart size m reached; asks_are = asks_are_of_phases size m reached; answers_come = answers_come size m reached }
