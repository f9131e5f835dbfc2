-- The locale whose text a normal text is.
use Rattle.std.proofs.Common.{◌≡◌, ℕ, ◌≤◌, length, take, min, arith}
use Rattle.std.proofs.lemmas.Bool.Decides.{nat_tests}
use Rattle.iloc_spec_grammar.specs.Syntax.{Text, languages}
use Rattle.iloc_spec_grammar.specs.Values.{text}
use Rattle.iloc_spec_grammar.proofs.Corollaries.{means_a_value, means_tests}
use Rattle.locale_web.specs.Kinds.{IsNormalTextOf, parts_of, rows_of}
use Rattle.iloc_normalize.specs.Modes.{IsNormalText}
use Rattle.iloc_normalize.specs.declared.Mode.{Mode}
use Rattle.iloc_writeable.specs.Hints.{saturated}
use Rattle.iloc_calls.specs.Answers.{HandsOut}
use Rattle.iloc_calls.specs.declared.status.Status.{Status}
use Rattle.iloc_calls.specs.declared.status.Status.TheVariants.{Done, BufferTooSmall}
use Rattle.iloc_text_calls.proofs.TellLemmas.{HasLocale}
use Rattle.locale_web.specs.Parts.{PartsAreWritten}

-- it is a value that passes the tests
pub normal_text_of : {mode : Mode} {t n : Text} (h : HasLocale mode t n) → IsNormalTextOf h.locale n
normal_text_of h = record {
  value = means_a_value (text h.locale) h.locale h.well_formed;
  tests = means_tests (text h.locale) h.locale h.well_formed;
  text = h.is;
}

-- what is handed out is the rows of that locale
pub parts_written : {mode : Mode} {t : Text} (room : Text) (end : ℕ) (before after : Text) (needed : ℕ)
    (status : Status)
    → (h : HasLocale mode t (take end room)) → end ≤ length room
    → IsNormalText languages mode t (take end room)
    → HandsOut (rows_of (parts_of h.locale)) before after needed status
    → PartsAreWritten mode t room end before after needed status
parts_written room end before after needed Done h inside n o =
    (h.locale, record { meant = h.meant; inside = inside; normal = n; text = h.is }, o)
parts_written room end before after needed BufferTooSmall h inside n o =
    (h.locale, record { meant = h.meant; inside = inside; normal = n; text = h.is }, o)
parts_written room end before after needed status h inside n o = absurd o

-- a number is cut where it is no number of the machine
pub min_saturated : (n : ℕ) → min n 18446744073709551615 ≡ saturated n
min_saturated n = grind (arith, nat_tests)
