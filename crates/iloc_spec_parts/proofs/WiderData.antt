-- Over a wider table data locales stay what they are.
use Rattle.std.proofs.Common.{◌≡◌, ℕ, Bool, true}
use Rattle.iloc_spec_parts.proofs.WiderSmall.{small_wider}
use Rattle.iloc_spec_parts.specs.DataLocales.{DataLocale, DataMeans}
use Rattle.iloc_spec_grammar.specs.Syntax.{Text}

pub data_wider : {T U : ℕ → Bool} → ((n : ℕ) → T n ≡ true → U n ≡ true) → (t : Text) (d : DataLocale) →
    DataMeans T t d → DataMeans U t d
data_wider wider t d h = search small_wider
