use Rattle.wire_xdr.proofs.decode.strings.+skip_string.Given as goal

abbrev pub decreases-skip_string : goal.decreases-skip_string
decreases-skip_string l = l.size
