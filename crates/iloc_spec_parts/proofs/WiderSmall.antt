-- Over a wider table small texts stay what they are.
use Rattle.std.proofs.Common.{arith, ◌≡◌, ℕ, Bool, true}
use Rattle.std.proofs.lemmas.Option.{IfSome_then}
use Rattle.iloc_spec_grammar.specs.Syntax.{Text}
use Rattle.iloc_spec_grammar.proofs.WiderTables as tables
use Rattle.iloc_spec_parts.specs.Small.{SmallLocale, identifier_of_small, IsSmall}

module _ {T U : ℕ → Bool} (wider : (n : ℕ) → T n ≡ true → U n ≡ true) where
  pub small_wider : (t : Text) (r : SmallLocale) → IsSmall T t r → IsSmall U t r
  small_wider t r h =
      let s = h.spelled in record {
        id = tables.identifier_means_wider wider _ (identifier_of_small r.id) h.id;
        written = h.written;
        spelled = grind (arith, IfSome_then);
        one_keyword = h.one_keyword;
        means = h.means;
      }
