-- What decoding puts into lent bytes; and the two decode calls, by the number of a reading: the answer, and the lent bytes afterwards.
-- Assumes nothing.
use Rattle.std.specs.Prelude.{ℕ, cond, not, List, eqb, length, Option, Some, None, Ok, Err}
use Rattle.answer.specs.declared.Refusal.TheVariants.{BadGeometry, NoOp, WrongBuffer}
use Rattle.bits.specs.Bytes.{patch}
use Rattle.op.specs.Reading.{reading_known}
use Rattle.op.specs.Record.{op_fields, op_record}
use Rattle.reading.specs.Readings.{reading_of}
use Rattle.answer.specs.Answer.{Answer, done}
use Rattle.decode.specs.declared.Recorded.{Recorded}
use Rattle.op.specs.declared.Op.{Op}

-- the record of what was decoded, at a place of the bytes, with the op's number and length
abbrev pub put_of : Option Op → ℕ → ℕ → ℕ → List ℕ → Option Recorded × List ℕ
put_of (Some op) ilen at pcOff s = (Some (record { op = (op_fields op).op; ilen = ilen }), patch s at (op_record op ilen pcOff))
put_of None ilen at pcOff s = (None, s)

-- 2, 6, by the reading and the length of the lent record; done where decoding may begin
abbrev pub decode_judged : ℕ → ℕ → Answer (Unit {0})
decode_judged reading room =
    cond (not (reading_known reading)) (Err BadGeometry)
    (cond (not (eqb room 16)) (Err WrongBuffer) done)

-- then the record, or 4 where there is no op
abbrev pub decoded_into : Answer (Unit {0}) → Option Op → ℕ → List ℕ → Answer (Unit {0}) × List ℕ
decoded_into (Err why) decoded ilen lent = (Err why, lent)
decoded_into (Ok tt) None ilen lent = (Err NoOp, lent)
decoded_into (Ok tt) (Some op) ilen lent = (done, op_record op ilen 0)

abbrev pub word_call : ℕ → ℕ → List ℕ → Answer (Unit {0}) × List ℕ
word_call reading raw lent = decoded_into (decode_judged reading (length lent)) ((reading_of reading).of_word raw) 4 lent

abbrev pub half_call : ℕ → ℕ → List ℕ → Answer (Unit {0}) × List ℕ
half_call reading raw lent = decoded_into (decode_judged reading (length lent)) ((reading_of reading).of_half raw) 2 lent
