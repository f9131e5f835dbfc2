-- Extending is override of maps and union of sets, and so associative.
use Rattle.std.proofs.Common.{◌≡◌, ◌||◌, [], append_assoc, append-nil}
use Rattle.std.specs.List.{AllByRecursion, list_any}
use Rattle.std.specs.Option.{option_or}
use Rattle.std.specs.FinMap.{find}
use Rattle.iloc_spec_grammar.specs.Syntax.{Field, Text, UnicodeKey, Subtag, word_cmp, is_same, Unicode}
use Rattle.iloc_spec_grammar.specs.Values.{IsNormal, IsUnicodeValue}
use Rattle.iloc_spec_grammar.proofs.MapLaws.{word_cmp_total, same_words, find-map_of, all-map_of, is_sorted-map_of, map_of_sorted}
use Rattle.iloc_spec_grammar.proofs.ReadBack.{all_append}
use Rattle.iloc_spec_grammar.proofs.SetLaws.{find-append, map_of-first, map_of-last, set_of-first, set_of-last, any-set_of}
use Rattle.iloc_spec_grammar.proofs.ValuesLaws.{set_of_ascending}
use Rattle.iloc_spec_grammar.proofs.WellRead.{all-set_of, set_of-ascending}
use Rattle.iloc_spec_parts.specs.Extending.{extend}
use Rattle.std.proofs.lemmas.List.Folds.{list_any-append}

pub extend_associative : (u v w : Unicode) → extend (extend u v) w ≡ extend u (extend v w)
extend_associative u v w = simp (
  set_of-first,
  append_assoc,
  set_of-last,
  map_of-last,
  word_cmp_total,
  same_words,
  map_of-first,
)

pub extend_overrides : (u v : Unicode) (k : Text) →
    find word_cmp k (extend u v).keywords
    ≡ option_or (find word_cmp k v.keywords) (find word_cmp k u.keywords)
extend_overrides u v k = simp (find-map_of, word_cmp_total, find-append)

pub extend_unites : (u v : Unicode) (w : Text) →
    list_any (is_same w) (extend u v).attributes
    ≡ (list_any (is_same w) u.attributes || list_any (is_same w) v.attributes)
extend_unites u v w = simp (any-set_of, list_any-append)

abbrev IsKeywordValue : Field → Type 0
IsKeywordValue f = IsNormal UnicodeKey f.0 × AllByRecursion (IsNormal Subtag) f.1

pub extend_is_value : (u v : Unicode) → IsUnicodeValue u → IsUnicodeValue v → IsUnicodeValue (extend u v)
extend_is_value u v h k = search (
  all-set_of,
  all_append,
  set_of-ascending,
  all-map_of,
  same_words,
  is_sorted-map_of,
  word_cmp_total,
)

pub extend_nothing : (u : Unicode) → IsUnicodeValue u →
    extend u (record { attributes = []; keywords = [] }) ≡ u
extend_nothing u h = search (append-nil, set_of_ascending, map_of_sorted)

pub nothing_extended : (u : Unicode) → IsUnicodeValue u →
    extend (record { attributes = []; keywords = [] }) u ≡ u
nothing_extended u h = search (set_of_ascending, append-nil, map_of_sorted)
