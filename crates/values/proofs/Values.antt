-- Every row of the table holds: antt computes both sides.
-- Assumes nothing.
use mathlib.Core.Path.{◌≡◌, refl}
use mathlib.Core.List.{map}
use lib.Count.{count_leading_zeros}
use Rattle.word.specs.Word.{form_by}
use Rattle.manual.specs.Words.{format_by}
use Rattle.values.specs.Values.{given, expected, values}

pub values_hold : map given values ≡ map expected values
unfolding form_by format_by count_leading_zeros
values_hold = refl
