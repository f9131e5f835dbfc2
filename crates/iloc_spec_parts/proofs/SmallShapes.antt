-- What small texts are made of: an identifier with one variant at most, and no block or one of `u`
-- with a keyword.
use Rattle.std.proofs.Common.{◌≡◌, ℕ, ◌<◌, ◌≤◌, Bool, true, false, cond, List, [], ◌∷◌, ◌++◌, length, map, filter, refl, sym, ap, ◌∙◌, arith, Option, Some, None, IfSome, option_map, option_to_list, true≢false, append-nil}
use Rattle.std.specs.List.{AllByRecursion}
use Rattle.std.specs.Char.{is_ascii_alphanumeric, to_ascii_lowercase}
use Rattle.std.specs.Ordering.{nat_cmp}
use Rattle.std.specs.declared.cmp.Ordering.{Ordering}
use Rattle.std.specs.Cmp.{IsTotalOrder, nat_cmp_total}
use Rattle.std.specs.FinMap.{find}
use Rattle.std.proofs.lemmas.Bool.{or_parts, eq-eqb, false_from_ne_true, both_ways}
use Rattle.std.proofs.lemmas.Bool.Decides.{nat_tests}
use Rattle.std.proofs.lemmas.List.{length-map}
use Rattle.iloc_spec_grammar.specs.Syntax.{Field, Block, code_x, code_u, code_t, Text, pieces, UnicodeKey, Attribute, IsWord, lower, word_cmp, Spelled, SpelledIdentifier, SpelledTransform, Identifier, Transform, Fields, identifier_pieces, fields_pieces, transform_pieces, IsIdentifier, AllDifferent, kept, is_other_singleton, lower_singleton, head, tail_blocks}
use Rattle.iloc_spec_grammar.specs.Meaning.{SpelledExtensions, Extensions, map_of, set_of, normal_identifier, normal_values, normal_fields, normal_extensions, just_unicode, no_transform, SpellsExtensions, after}
use Rattle.iloc_spec_grammar.specs.Reading.{first_item}
use Rattle.iloc_spec_grammar.proofs.MapLaws.{word_cmp_total, find-map_of}
use Rattle.iloc_spec_grammar.proofs.SetLaws.{length-set_of-different}
use Rattle.iloc_spec_grammar.proofs.Singletons.{self_tied, IsKind, of_u, of_t, of_x, another, kind_of, lower_letter, no_u}
use Rattle.iloc_spec_parts.specs.Small.{SmallIdentifier, SmallLocale, identifier_of_small, keyword_of_small, locale_of_small, IsSmallIdentifier, IsSmall}
use Rattle.iloc_spec_parts.specs.SmallComputing.{small_identifier}

-- lists of at most one item

pub short_list : {X : Type 0} (xs : List X) → length xs ≤ 1 → option_to_list (first_item xs) ≡ xs
short_list [] h = refl
short_list (x ∷ []) h = refl
short_list (x ∷ y ∷ xs) h = absurd (omega arith)

short_set : (ws : List Text) → length ws ≤ 1 →
    option_to_list (first_item (map lower ws)) ≡ set_of (map lower ws)
short_set [] h = refl
short_set (w ∷ []) h = refl
short_set (w ∷ v ∷ ws) h = absurd (omega arith)

pub short_different : (ws : List Text) → length ws ≤ 1 → AllDifferent word_cmp (map lower ws)
short_different [] h = tt
short_different (w ∷ []) h = (both_ways _ refl, tt)
short_different (w ∷ v ∷ ws) h = absurd (omega arith)

pub one_at_most : {X : Type 0} (o : Option X) → length (option_to_list o) ≤ 1
one_at_most None = omega arith
one_at_most (Some x) = omega arith

pub first-option : {X : Type 0} (o : Option X) → first_item (option_to_list o) ≡ o
first-option None = refl
first-option (Some x) = refl

-- maps and sets that are empty

pub none_there : {K X : Type 0} (R : K → K → Ordering) → IsTotalOrder R → (es : List (K × X)) →
    map_of R es ≡ [] → es ≡ []
none_there R o [] e = refl
none_there {K = K} {X = X} R o (x ∷ es) e =
    let first : find R x.0 (x ∷ es) ≡ Some x.1 =
    grind arith in
    let nothing : ◌≡◌ {A = Option X} None (Some x.1) =
    sym (ap (find R x.0) e) ∙ find-map_of R o x.0 (x ∷ es) ∙ first in
    absurd (cc)

pub none_mapped : {X Y : Type 0} (f : X → Y) (xs : List X) → map f xs ≡ [] → xs ≡ []
none_mapped f [] e = refl
none_mapped f (x ∷ xs) e = absurd (cc)

none_in_set : (ws : List Text) → set_of ws ≡ [] → ws ≡ []
none_in_set ws e = grind (arith, none_mapped, none_there, word_cmp_total)

pub no_normal_fields : (fs : Fields) → normal_fields fs ≡ [] → fs ≡ []
no_normal_fields fs e = grind (arith, none_mapped, none_there, word_cmp_total)

pub none_of_both : {X : Type 0} (xs ys : List X) → xs ++ ys ≡ [] → (xs ≡ []) × (ys ≡ [])
none_of_both [] ys e = (refl, e)
none_of_both (x ∷ xs) ys e = absurd (cc)

-- identifiers

pub same_variants : (i : SpelledIdentifier) → length i.variants ≤ 1 →
    identifier_of_small (small_identifier i) ≡ normal_identifier i
same_variants i h = simp short_set

pub small_identifier_of : {T : ℕ → Bool} (ps : List Text) (i : SpelledIdentifier) → IsIdentifier T i →
    ps ≡ identifier_pieces i → length i.variants ≤ 1 → IsSmallIdentifier T ps (small_identifier i)
small_identifier_of ps i g e few = search same_variants

pub one_variant : {T : ℕ → Bool} (ps : List Text) (r : SmallIdentifier) (h : IsSmallIdentifier T ps r) →
    length h.written.variants ≤ 1
one_variant ps r h = grind (arith, length-set_of-different, length-map, one_at_most)

pub small_identifier_is : {T : ℕ → Bool} (ps : List Text) (r : SmallIdentifier)
    (h : IsSmallIdentifier T ps r) →
    r ≡ small_identifier h.written
small_identifier_is ps r h =
    let variant : r.variant ≡ first_item (map lower h.written.variants) = sym (first-option r.variant)
    ∙ ap (λ (i : Identifier). first_item i.variants)
    (h.means ∙ sym (same_variants h.written (one_variant ps r h)))
    ∙ first-option (first_item (map lower h.written.variants)) in
    grind arith

-- Keywords.

-- a keyword as it is written: its singleton, its key, and the pieces after it
pub record WrittenKeyword : Type 0 where
  pub byte : ℕ
  pub key : Text
  pub values : List Text

-- its key and its first value besides `true`
abbrev pub small_keyword : WrittenKeyword → Text × Option Text
small_keyword k = (lower k.key, first_item (normal_values k.values))

-- no block, or one with the keyword after its singleton
abbrev pub keyword_blocks : Option WrittenKeyword → List Block
keyword_blocks None = []
keyword_blocks (Some k) = (k.byte, k.key ∷ k.values) ∷ []

-- a keyword after `u` with one value besides `true` at most
pub record IsSmallKeyword (k : WrittenKeyword) : Type 0 where
  pub u : to_ascii_lowercase k.byte ≡ code_u
  pub key : IsWord UnicodeKey k.key
  pub values : AllByRecursion (IsWord Attribute) k.values
  pub one_value : length (normal_values k.values) ≤ 1

-- the blocks are none, or one of such a keyword, which is read as o
pub record SpellsKeyword (bs : List Block) (o : Option (Text × Option Text)) : Type
    0 where
  pub keyword : Option WrittenKeyword
  pub grammatical : IfSome keyword IsSmallKeyword
  pub spelled : bs ≡ keyword_blocks keyword
  pub means : o ≡ option_map small_keyword keyword

-- blocks that have nothing after `t`, `x` and another singleton are blocks of `u`
abbrev IsOfU : Block → Type 0
IsOfU b = lower_singleton b ≡ code_u

abbrev HasPieces : Block → Type 0
HasPieces b = (is_ascii_alphanumeric b.0 ≡ true) × (0 < length b.1)

pub nothing_here : {X : Type 0} (xs : List X) → 0 < length xs → xs ≡ [] → ⊥
nothing_here [] h e = absurd (omega arith)
nothing_here (x ∷ xs) h e = absurd (cc)

-- those of other singletons
abbrev other_blocks : List Block → List Block
other_blocks bs = filter {X = Block} (λ b. is_other_singleton b.0) (map (λ b. (lower_singleton b, b.1)) bs)

only_u : (bs : List Block) → AllByRecursion HasPieces bs → after code_t bs ≡ [] → after code_x bs ≡ [] →
    other_blocks bs ≡ [] → AllByRecursion IsOfU bs
only_u [] h t x o = tt
only_u (b ∷ bs) h t x o = (
  at (kind_of (lower_singleton b) (lower_letter b.0 h.0.0)),
  only_u bs h.1 (none_of_both _ _ t).1 (none_of_both _ _ x).1
      (others (is_other_singleton (lower_singleton b)) o),
)
  where
    at : IsKind (lower_singleton b) → IsOfU b
    at (of_u e) = e
    at (of_t e) = absurd (nothing_here b.1 h.0.1
        (ap (λ t. cond t b.1 []) (sym (eq-eqb (lower_singleton b) code_t e)) ∙ (none_of_both _ _ t).0))
    at (of_x e) = absurd (nothing_here b.1 h.0.1
        (ap (λ t. cond t b.1 []) (sym (eq-eqb (lower_singleton b) code_x e)) ∙ (none_of_both _ _ x).0))
    at (another e) =
        let some : (lower_singleton b, b.1) ∷ other_blocks bs ≡ [] =
        ap (λ t. cond t ((lower_singleton b, b.1) ∷ other_blocks bs) (other_blocks bs)) (sym e) ∙ o in
        absurd (cc)

    others : (t : Bool) → cond t ((lower_singleton b, b.1) ∷ other_blocks bs) (other_blocks bs) ≡ [] →
        other_blocks bs ≡ []
    others true e = absurd (cc)
    others false e = e

-- one of `u` and what it spells
one_of_u : (bs : List Block) → AllDifferent nat_cmp (map (λ b. lower_singleton b) bs) →
    AllByRecursion HasPieces bs → AllByRecursion IsOfU bs → (fs : Fields) →
    after code_u bs ≡ fields_pieces fs →
    AllByRecursion (λ f. IsWord UnicodeKey f.0 × AllByRecursion (IsWord Attribute) f.1) fs → length fs ≤ 1 →
    (o : Option (Text × Option Text)) →
    option_to_list (option_map keyword_of_small o) ≡ normal_fields fs → SpellsKeyword bs o
one_of_u [] d h u [] k w l None e = grind arith
one_of_u [] d h u (f ∷ fs) k w l o e = absurd (cc)
one_of_u bs d h u [] k w l (Some q) e = absurd (cc)
one_of_u ((c, ps) ∷ []) d h u [] k w l o e = grind (arith, nothing_here, eq-eqb, none_of_both)
one_of_u ((c, ps) ∷ []) d h u (f ∷ []) k w l None e = absurd (cc)
one_of_u ((c, ps) ∷ []) d h u (f ∷ []) k w l (Some q) e =
    let pieces_are : ps ≡ f.0 ∷ f.1 =
    grind (arith, append-nil, eq-eqb) in
    let both : keyword_of_small q ≡ (lower f.0, normal_values f.1) = cc in
    let key : q.0 ≡ lower f.0 = ap (λ (e : Field). e.0) both in
    let value : option_to_list q.1 ≡ normal_values f.1 = ap (λ (e : Field). e.1) both in
    record {
      keyword = Some (record { byte = c; key = f.0; values = f.1 });
      grammatical = grind (arith, one_at_most);
      spelled = ap (λ l. (c, l) ∷ []) pieces_are;
      means = grind (arith, first-option);
    }
one_of_u bs d h u (f ∷ g ∷ fs) k w l o e = absurd (omega arith)
one_of_u (b ∷ c ∷ bs) d h u fs k w l o e = grind (arith, true≢false, self_tied, or_parts, false_from_ne_true)

pub keyword_spelled : {T : ℕ → Bool} (t : Text) (r : SmallLocale) → IsSmall T t r →
    SpellsKeyword (tail_blocks (pieces t)) r.keyword
keyword_spelled t r h =
    let bs = tail_blocks (pieces t) in
    let e = h.written in
    let none_transform = ap (λ (e : Extensions). e.transform) h.means in
    let transform_is : transform_pieces e.transform ≡ [] = no_pieces e.transform none_transform in
    let private_is : e.private ≡ [] =
    grind (arith, none_mapped) in
    let others_are : e.others ≡ [] = none_mapped (λ (o : Block). (o.0, kept o.1)) e.others
    (none_there nat_cmp nat_cmp_total _ (sym (ap (λ (e : Extensions). e.others) h.means))) in
    grind (arith, none_mapped, none_in_set, one_of_u, only_u)
  where
    no_pieces : (m : SpelledTransform) →
        no_transform ≡ record { id = option_map normal_identifier m.id; fields = normal_fields m.fields } →
        transform_pieces m ≡ []
    no_pieces m e = from m.id m.fields (ap (λ (n : Transform). n.id) e)
        (no_normal_fields m.fields (sym (ap (λ (n : Transform). n.fields) e)))
      where
        from : (o : Option SpelledIdentifier) (fs : Fields) →
            ◌≡◌ {A = Option Identifier} None (option_map normal_identifier o) → fs ≡ [] →
            transform_pieces {s = Spelled} (record { id = o; fields = fs }) ≡ []
        from None fs n k = ap fields_pieces k
        from (Some i) fs n k = absurd (cc)

-- the extensions that such blocks spell
abbrev keyword_extensions : Option WrittenKeyword → SpelledExtensions
keyword_extensions k = record {
  unicode = record {
    attributes = [];
    keywords = option_to_list (option_map (λ (k : WrittenKeyword). (k.key, k.values)) k);
  };
  transform = record { id = None; fields = [] };
  private = [];
  others = [];
}

pub u_letter : (c : ℕ) → to_ascii_lowercase c ≡ code_u → is_ascii_alphanumeric c ≡ true
u_letter c h = grind (arith, nat_tests)

spelled_keyword : {T : ℕ → Bool} (k : Option WrittenKeyword) → IfSome k IsSmallKeyword →
    SpellsExtensions T (keyword_blocks k) (keyword_extensions k)
spelled_keyword None g = grind arith
spelled_keyword (Some k) g = grind (arith, u_letter, both_ways, false_from_ne_true, no_u)

pub small_by_keyword : {T : ℕ → Bool} (t : Text) (r : SmallLocale) →
    IsSmallIdentifier T (head (pieces t)) r.id → SpellsKeyword (tail_blocks (pieces t)) r.keyword →
    IsSmall T t r
small_by_keyword {T = T} t r id k = record {
  id = id;
  written = keyword_extensions k.keyword;
  spelled = rw k.spelled (spelled_keyword k.keyword k.grammatical);
  one_keyword = search one_at_most;
  means = means k.keyword k.grammatical
      (search);
}
  where
    means : (k : Option WrittenKeyword) → IfSome k IsSmallKeyword →
        (locale_of_small r).extensions
        ≡ (locale_of_small (record { id = r.id; keyword = option_map small_keyword k })).extensions →
        (locale_of_small r).extensions ≡ normal_extensions (keyword_extensions k)
    means None g e = e
    means (Some k) g e = e
        ∙ ap
        (λ (vs : List Text). just_unicode (record { attributes = []; keywords = (lower k.key, vs) ∷ [] }))
        (short_list (normal_values k.values) g.one_value)
