-- What follows for whole texts.
use Rattle.std.proofs.Common.{◌≡◌, ℕ, Bool, ap, subst, ◌↔◌}
use Rattle.iloc_spec_grammar.specs.Syntax.{LanguageLengths, Text, AreLengths, languages}
use Rattle.iloc_spec_grammar.specs.Meaning.{Locale, Means}
use Rattle.iloc_spec_grammar.specs.Tree.{IsTreeWellFormed}
use Rattle.iloc_spec_grammar.specs.Values.{IsValue, IsWellFormed, text}
use Rattle.iloc_spec_grammar.proofs.WellRead.{means_value, means_well_formed}
use Rattle.iloc_spec_grammar.proofs.RawLaws.{languages_table, table_in_ours}
use Rattle.iloc_spec_grammar.proofs.WiderTables.{value_wider}
use Rattle.iloc_spec_grammar.proofs.SameMeaning.{one_meaning, tree_means}
use Rattle.iloc_spec_grammar.proofs.SameText.{well_formed_in, well_formed_is}

-- what a text means passes the tests
pub means_tests : {T : ℕ → Bool} (t : Text) (M : Locale) → Means T t M → IsTreeWellFormed M
means_tests t M m = means_well_formed t M (tree_means t M m)

-- what a text means is a value
pub means_a_value : {T : ℕ → Bool} (t : Text) (M : Locale) → Means T t M → IsValue T M
means_a_value t M m = means_value t M (tree_means t M m)

-- the normal text of what a text means has the same meaning
pub means_again : {T : ℕ → Bool} → AreLengths T → (t : Text) (M : Locale) → Means T t M → Means T (text M) M
means_again table t M m = (well_formed_in table M (means_a_value t M m)).1 (means_tests t M m)

-- a value that passes the tests is well-formed
pub well_formed_value : {T : ℕ → Bool} → AreLengths T → (M : Locale) → IsValue T M → IsTreeWellFormed M →
    IsWellFormed M
well_formed_value table M h g = (well_formed_is M (value_wider (table_in_ours table) M h)).1 g

pub read_well_formed : {T : ℕ → Bool} → AreLengths T → (t : Text) (M : Locale) → Means T t M →
    IsWellFormed M
read_well_formed table t M m = well_formed_value table M (means_a_value t M m) (means_tests t M m)

-- the text of a well-formed value means it over each table whose value it is
pub reads_back : {T : ℕ → Bool} → AreLengths T → (M : Locale) → IsValue T M → IsWellFormed M →
    Means T (text M) M
reads_back table M h g = (well_formed_in table M h).1 (means_tests (text M) M g)

-- well-formed values with one text are one value
pub same_text_same_value : (L M : Locale) → IsWellFormed L → IsWellFormed M → text L ≡ text M → L ≡ M
same_text_same_value L M a b e =
    one_meaning languages_table (text M) L M (subst (λ (t : Text). Means languages t L) e a) b

-- two accepted texts mean the same exactly where their printed texts are equal
pub same_meaning : (T : LanguageLengths) → AreLengths T → (t u : Text) (L M : Locale) → Means T t L →
    Means T u M →
    (L ≡ M) ↔ (text L ≡ text M)
same_meaning T table t u L M a b = (λ e. ap text e, search (same_text_same_value, read_well_formed))
