-- What a keyword that is there or not reads as.
use Rattle.std.proofs.Common.{◌≡◌, true, List, [], ◌∷◌, Option, Some, None, ap, refl, is_some, is_none, ◌||◌, option_and_then, ◌==◌, ℕ, length, arith}
use Rattle.std.specs.FinMap.{find}
use Rattle.std.proofs.lemmas.Bool.Decides.{nat_tests}
use Rattle.iloc_spec_grammar.specs.Syntax.{Text, Fields, word_cmp}
use Rattle.iloc_spec_grammar.specs.Meaning.{Locale}
use Rattle.iloc_spec_parts.specs.Preferences.{read_keyword, is_readable}

zero : (n : ℕ) → (n == 0) ≡ true → n ≡ 0
zero n h = grind (arith, nat_tests)

module _ {X : Type 0} (reads : List Text → Option X) where
  pub absent : (k : Text) (M : Locale) → None ≡ find word_cmp k M.extensions.unicode.keywords →
      (None ≡ read_keyword reads k M) × (true ≡ is_readable reads k M)
  absent k M h = (ap (option_and_then reads) h, ap (λ o. is_none o || is_some (option_and_then reads o)) h)

  -- there are no keywords
  pub nothing : (k : Text) (M : Locale) → (length M.extensions.unicode.keywords == 0) ≡ true →
      (None ≡ read_keyword reads k M) × (true ≡ is_readable reads k M)
  nothing k M h = absent k M (by M.extensions.unicode.keywords (zero _ h))
    where
      by : (fs : Fields) → length fs ≡ 0 → None ≡ find word_cmp k fs
      by [] none = refl
      by (f ∷ fs) none = absurd (omega (arith, none))

  pub there : (k : Text) (M : Locale) (v : List Text) →
      Some v ≡ find word_cmp k M.extensions.unicode.keywords →
      (reads v ≡ read_keyword reads k M) × (is_some (reads v) ≡ is_readable reads k M)
  there k M v h = (ap (option_and_then reads) h, ap (λ o. is_none o || is_some (option_and_then reads o)) h)
