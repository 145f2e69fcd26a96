-- The loop's invariant: the bytes before the next are written. Assumes nothing.
use lib.ListN.{take}
use Rattle.digits.specs.Digits.{digits_of}
use Rattle.writing.specs.Writing.{Writes}
use Rattle.writing.proofs.Writer.bytes.Given as goal

abbrev pub invariant-loop-byte : goal.invariant-loop-byte
invariant-loop-byte l = Writes l.initial.self l.self (digits_of (take l.byte-index l.bytes))
