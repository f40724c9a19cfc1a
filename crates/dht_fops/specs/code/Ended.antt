-- The state of a fop that is done.
use Rattle.dht_fops.specs.declared.state.OnReply.TheVariants.{End}
use Rattle.dht_fops.specs.declared.state.State.{State}
use Rattle.dht_fops.specs.declared.state.State.TheVariants.{Reply}

abbrev pub ended : State
ended = Reply End
