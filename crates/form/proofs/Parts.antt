-- Where readings part: the Rust's and the manual's at the entries, the manual's and the short list's at the missed halfwords.
-- Assumes nothing.
use mathlib.Core.Path.{refl}
use mathlib.Core.Bool.{false}
use Rattle.bits.proofs.Tests.{true_false}
use Rattle.agree.specs.Differences.{listed, word_entries, half_entries}
use Rattle.agree.proofs.Words as words
use Rattle.agree.proofs.Halfwords as halves
use Rattle.reading.specs.Readings.{rust, manual, reading_of}
use Rattle.reading.proofs.Proper.{word_proper}
use Rattle.agree.specs.ShortList.{missed_entries}
use Rattle.agree.proofs.ShortList.{short_alike, short_unlike}
use Rattle.form.specs.ShortList.{short}
use Rattle.form.proofs.TwoReadings.{Part}

-- the Rust's reading and the manual's part at the entries
pub entries_part : Part rust manual (listed half_entries) (listed word_entries)
unfolding reading_of
entries_part =
    record {
      half_alike = halves.agree;
      half_unlike = halves.unlike;
      word_alike = words.agree;
      word_unlike = words.unlike;
      word_proper = λ w. (word_proper 0 w, word_proper 1 w);
    }

-- the manual's reading and the short list's part at the missed halfwords, and at no word
pub missed_part : Part manual short (listed missed_entries) (λ w. false)
unfolding reading_of
missed_part =
    record {
      half_alike = short_alike;
      half_unlike = short_unlike;
      word_alike = λ w h. refl;
      word_unlike = λ w h. absurd (true_false h refl);
      word_proper = λ w. (word_proper 1 w, word_proper 1 w);
    }
