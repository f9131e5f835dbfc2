-- What a text means is a well-formed value.
use Rattle.std.proofs.Common.{◌≡◌, ◌≢◌, ℕ, ◌<◌, Bool, true, false, not, List, [], ◌∷◌, length, map, filter_map, refl, subst, arith, Option, Some, None, IfSome, option_map}
use Rattle.std.specs.List.{AllByRecursion}
use Rattle.std.specs.Char.{to_ascii_lowercase}
use Rattle.std.specs.Ordering.{nat_cmp}
use Rattle.std.specs.Cmp.{nat_cmp_total}
use Rattle.std.specs.FinMap.{find, nat_cmp-IsAntisymmetric}
use Rattle.std.proofs.lemmas.Bool.Decides.{nat_tests}
use Rattle.std.proofs.lemmas.Str.Ascii.{lowercase-lowercase}
use Rattle.iloc_spec_grammar.specs.Syntax.{LanguageLengths, Field, Block, code_x, code_u, code_t, Text, Kind, Subtag, UnicodeKey, Attribute, PrivateSubtag, is_word, IsWord, normal, lower, word_cmp, is_true, SpelledIdentifier, SpelledUnicode, SpelledTransform, Fields, HasWords, IsKeyword, IsOther, kept, is_other_singleton, lower_singleton, IsPrivate}
use Rattle.iloc_spec_grammar.specs.Tree.{Extension, unicode, transform, other, Written, IsUnicodeBlock, IsTransformBlock, IsExtension, IsWritten, unicode_part, transform_part, private_part, other_part, by_singleton, extensions_meaning, meaning, TreeMeans, IsTreeWellFormed}
use Rattle.iloc_spec_grammar.specs.Meaning.{set_of, normal_identifier, normal_values, normal_fields, normal_unicode, normal_transform, Locale}
use Rattle.iloc_spec_grammar.specs.Values.{IsNormal, StrictlyAscends, IsIdentifierValue, IsUnicodeValue, IsTransformValue, IsValue}
use Rattle.iloc_spec_grammar.proofs.WordsLaws.{length-attribute}
use Rattle.iloc_spec_grammar.proofs.MapLaws.{is_sorted-map_of, all-map_of, word_cmp_total, same_words}
use Rattle.iloc_spec_grammar.proofs.ValuesLaws.{all_weaker, ascend_as_keys}
use Rattle.iloc_spec_grammar.proofs.SetLaws.{sorted-keys}
use Rattle.iloc_spec_grammar.proofs.ReadWords.{IsNormal-normal}
use Rattle.iloc_spec_grammar.proofs.ReadBack.{plain_fields}
use Rattle.iloc_spec_grammar.proofs.General.{all_mapped, some_mapped}
use Rattle.iloc_spec_grammar.proofs.Singletons.{find_holds}
use Rattle.std.proofs.lemmas.Bool.{cond_both, not-true}

-- sets

pub all-set_of : (P : Text → Type 0) (ws : List Text) → AllByRecursion P ws →
    AllByRecursion P (set_of ws)
all-set_of P ws h = all_mapped (λ (e : Text × Text). P e.0) P (λ e. e.0) (λ e p. p) _
    (search (all-map_of, same_words, all_mapped))

pub set_of-ascending : (ws : List Text) → StrictlyAscends word_cmp (set_of ws)
set_of-ascending ws = search (ascend_as_keys, sorted-keys, is_sorted-map_of, word_cmp_total)

-- parts

all_normal : (k : Kind) (ws : List Text) → ((p : Text) → normal k p ≡ lower p) →
    AllByRecursion (IsWord k) ws → AllByRecursion (IsNormal k) (map lower ws)
all_normal k ws e =
    all_mapped (IsWord k) (IsNormal k) lower (λ w h. subst (IsNormal k) (e w) (IsNormal-normal k w h)) ws

pub option_normal : (k : Kind) (o : Option Text) → IfSome o (IsWord k) →
    IfSome (option_map (normal k) o) (IsNormal k)
option_normal k = search (some_mapped, IsNormal-normal)

pub identifier_value : {T : ℕ → Bool} (i : SpelledIdentifier) → HasWords T i →
    IsIdentifierValue T (normal_identifier i)
identifier_value {T = T} i h =
    search (IsNormal-normal, option_normal, all-set_of, all_normal, set_of-ascending)

-- a value: a word of 3 to 8 letters or digits, not `true`
abbrev IsPlain : Text → Type 0
IsPlain w = IsNormal Attribute w × (is_true w ≡ false)

plain_values : (ws : List Text) → AllByRecursion (IsWord Attribute) ws →
    AllByRecursion IsPlain (normal_values ws)
plain_values [] h = tt
plain_values (w ∷ ws) h = cond_both (not (is_true (lower w))) _ _ (AllByRecursion IsPlain)
    (λ e. ((IsNormal-normal Attribute w h.0, not-true _ e), plain_values ws h.1)) (λ _. plain_values ws h.1)

abbrev IsEntry : Kind → Field → Type 0
IsEntry k f = IsNormal k f.0 × AllByRecursion IsPlain f.1

entries_of : (k : Kind) → ((p : Text) → normal k p ≡ lower p) → (fs : Fields) →
    AllByRecursion (λ f. IsWord k f.0 × AllByRecursion (IsWord Attribute) f.1) fs →
    AllByRecursion (IsEntry k) (map (λ f. (lower f.0, normal_values f.1)) fs)
entries_of k e = all_mapped (λ f. IsWord k f.0 × AllByRecursion (IsWord Attribute) f.1) (IsEntry k)
    (λ f. (lower f.0, normal_values f.1))
    (λ f h. (subst (IsNormal k) (e f.0) (IsNormal-normal k f.0 h.0), plain_values f.1 h.1))

field_entries : (k : Kind) → ((p : Text) → normal k p ≡ lower p) → (fs : Fields) →
    AllByRecursion (λ f. IsWord k f.0 × AllByRecursion (IsWord Attribute) f.1) fs →
    AllByRecursion (IsEntry k) (normal_fields fs)
field_entries k e fs h = search (all-map_of, same_words, entries_of)

pub attribute_is_subtag : (w : Text) → IsNormal Attribute w → IsNormal Subtag w
unfolding is_word
attribute_is_subtag w h = grind (arith, nat_tests)

keyword_entries : (fs : Fields) → AllByRecursion IsKeyword fs →
    AllByRecursion (IsEntry UnicodeKey) (normal_fields fs)
keyword_entries fs h = field_entries UnicodeKey (λ p. refl) fs h

pub unicode_value : (u : SpelledUnicode) → IsUnicodeBlock u → IsUnicodeValue (normal_unicode u)
unicode_value u h =
    grind (
      arith,
      all-set_of,
      all_normal,
      set_of-ascending,
      all_weaker,
      attribute_is_subtag,
      keyword_entries,
      is_sorted-map_of,
      word_cmp_total,
    )

pub transform_value : (T : LanguageLengths) (m : SpelledTransform) → IsTransformBlock T m →
    IsTransformValue T (normal_transform m)
transform_value T m h = grind (
  arith,
  some_mapped,
  identifier_value,
  field_entries,
  plain_fields,
  is_sorted-map_of,
  word_cmp_total,
)

-- what a look-up finds

abbrev pub FollowsRule : (ℕ → Bool) → Extension → Type 0
FollowsRule T (unicode u) = IsUnicodeBlock u
FollowsRule T (transform m) = IsTransformBlock T m
FollowsRule T (other ps) = IsOther ps

follows : (T : LanguageLengths) (c : ℕ) (e : Extension) → IsExtension T c e → FollowsRule T e
follows T c (unicode u) h = h.1
follows T c _ h = h.1

part_unicode : (T : LanguageLengths) (o : Option Extension) → IfSome o (FollowsRule T) →
    IsUnicodeValue (unicode_part o)
part_unicode T (Some (unicode u)) h = unicode_value u h
part_unicode T _ h = search

part_well : (T : LanguageLengths) (o : Option Extension) → IfSome o (FollowsRule T) →
    AllByRecursion (λ f. AllByRecursion (λ w. (is_true w ≡ false) × (length w ≢ 2)) f.1)
    (unicode_part o).keywords
part_well T (Some (unicode u)) h = grind (arith, all_weaker, length-attribute, keyword_entries)
part_well T _ h = tt

part_transform : (T : LanguageLengths) (o : Option Extension) → IfSome o (FollowsRule T) →
    IsTransformValue T (transform_part o)
part_transform T (Some (transform m)) h = transform_value T m h
part_transform T _ h = search

kept_normal : (ps : List Text) → AllByRecursion (IsNormal Subtag) (kept ps)
kept_normal [] = tt
kept_normal (p ∷ ps) = cond_both (is_word Subtag p) _ _ (λ l. AllByRecursion (IsNormal Subtag) (map lower l))
    (λ e. (IsNormal-normal Subtag p e, kept_normal ps)) (λ _. kept_normal ps)

abbrev IsOtherEntry : Block → Type 0
IsOtherEntry o = ((is_other_singleton o.0 ≡ true) × (to_ascii_lowercase o.0 ≡ o.0)) × (0 < length o.1)
    × AllByRecursion (IsNormal Subtag) o.1

other_entries : (T : LanguageLengths) (es : List (ℕ × Extension)) →
    AllByRecursion (λ e. IsExtension T (lower_singleton e) e.1) es →
    AllByRecursion IsOtherEntry (filter_map other_part (by_singleton es))
other_entries T [] h = tt
other_entries T (e ∷ es) h = grind (arith, lowercase-lowercase, kept_normal, other_entries T es h.1)

private_value : (x : Option Block) → IfSome x (λ e. (lower_singleton e ≡ code_x) × IsPrivate e.1) →
    AllByRecursion (IsNormal PrivateSubtag) (private_part x)
private_value None h = tt
private_value (Some e) h = search all_normal

module _ {T : ℕ → Bool} (w : Written) (h : IsWritten T w) where
  others : AllByRecursion IsOtherEntry (extensions_meaning w).others
  others =
      all-map_of nat_cmp nat_cmp-IsAntisymmetric IsOtherEntry _ (other_entries T w.extensions h.extensions)

  rules : (q : ℕ) → IfSome (find nat_cmp q (by_singleton w.extensions)) (FollowsRule T)
  rules q =
      find_holds (λ c. FollowsRule T) q w.extensions (search (all_weaker, follows))

  pub written_value : IsValue T (meaning w)
  written_value = record {
    id = identifier_value w.id h.id.words;
    extensions = record {
      unicode = part_unicode T _ (rules code_u);
      transform = part_transform T _ (rules code_t);
      private = private_value w.private h.private;
      others = grind (arith, all_weaker, others);
    };
  }

  pub written_well_formed : IsTreeWellFormed (meaning w)
  written_well_formed = record {
    ascending = is_sorted-map_of nat_cmp nat_cmp_total (filter_map other_part (by_singleton w.extensions));
    singletons = grind (arith, all_weaker, others);
    nonempty = grind (arith, all_weaker, others);
    values = part_well T _ (rules code_u);
  }

pub means_value : {T : ℕ → Bool} (t : Text) (M : Locale) → TreeMeans T t M → IsValue T M
means_value {T = T} t M m = rw m.means (written_value m.written m.grammatical)

pub means_well_formed : {T : ℕ → Bool} (t : Text) (M : Locale) → TreeMeans T t M → IsTreeWellFormed M
means_well_formed t M m = grind (arith, written_well_formed)
