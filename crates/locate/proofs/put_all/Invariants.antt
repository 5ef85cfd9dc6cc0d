use mathlib.Core.Path.{◌≡◌}
use lib.ListN.{drop}
use Rattle.text.specs.Text.{page, put_all}
use Rattle.locate.specs.Parts.{pieces_of}
use Rattle.locate.proofs.put_all.Given as goal

abbrev pub invariant-loop-m : goal.invariant-loop-m
invariant-loop-m l = put_all (page l.at l.log) (pieces_of (drop l.m-index l.messages)) ≡ put_all (page l.start l.initial.log) (pieces_of l.messages)
