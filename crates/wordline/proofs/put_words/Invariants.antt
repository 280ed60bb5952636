use Rattle.wordline.proofs.WordLaws.{Saying}
use Rattle.wordline.proofs.put_words.Given as goal

abbrev pub invariant-loop-byte : goal.invariant-loop-byte
invariant-loop-byte l = Saying l.initial.out l.words l.numbers l.out l.at l.next l.byte-index
