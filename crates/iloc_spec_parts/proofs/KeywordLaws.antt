-- Each value of an enum keyword is read of the list that it gives.
use Rattle.std.proofs.Common.{rules, ◌≡◌, List, [], ◌∷◌, refl, ap, ◌∙◌, Some, false}
use Rattle.std.specs.List.{AllByRecursion}
use Rattle.iloc_spec_grammar.specs.Syntax.{Text, Script, CurrencyType, is_true, lower, word}
use Rattle.iloc_spec_grammar.specs.Values.{IsNormal}
use Rattle.iloc_spec_grammar.proofs.WordsLaws.{is_word-lower, normal-lower}
use Rattle.iloc_spec_parts.specs.SingleValues.{single, currency_reads, currency_gives}
use Rattle.iloc_spec_parts.specs.Keywords.{EnumKeyword, CommonVariantType, ReadsWhatItGives, subtag_gives, scripts_read, scripts_give, with_first}

pub reads_what_it_gives : (k : EnumKeyword) → ReadsWhatItGives k
unfolding is_true
reads_what_it_gives CommonVariantType = (refl, tt)
reads_what_it_gives _ = search rules

-- keywords of words

pub currency_read_back : (w : Text) → IsNormal CurrencyType w → currency_reads (currency_gives w) ≡ Some w
currency_read_back w h = rw h.0 (ap Some h.1)

pub subtag_read_back : (w : Text) → is_true w ≡ false → single (subtag_gives w) ≡ Some w
subtag_read_back w h = rw h refl

pub scripts_read_back : (ws : List Text) → AllByRecursion (IsNormal Script) ws →
    scripts_read (scripts_give ws) ≡ Some ws
scripts_read_back [] h = refl
scripts_read_back (w ∷ ws) h = λ i. with_first (one i) (scripts_read_back ws h.1 i)
  where
    one : word Script (lower w) ≡ Some w
    one = rw (is_word-lower Script w ∙ h.0.0) (ap Some (normal-lower Script w ∙ h.0.1))
