-- Subdivisions stand as their first four bytes do, and then as their suffixes.
use Rattle.std.proofs.Common.{Equal, Less, Greater, Ordering, ◌≡◌, ◌≢◌, ℕ, List, [], ◌∷◌, ◌++◌, length, true, get_or, drop, refl, sym, ap, ◌∙◌, arith}
use Rattle.std.proofs.lemmas.List.{length-append, length-replicate}
use Rattle.std.specs.Cmp.Lexicographic.{slice_cmp}
use Rattle.std.specs.Ordering.{nat_cmp, ordering_then}
use Rattle.iloc_spec_grammar.specs.Syntax.{Text}
use Rattle.iloc_tinystr.specs.TinyText.{raw_of, is_tiny_text}
use Rattle.iloc_tinystr.proofs.TinyTextLemmas.{cmp_of_texts, length-le-tiny}
use Rattle.iloc_keyword_types.specs.Beginnings.{IsBeginning}

then_equal : (a : Ordering) → ordering_then a Equal ≡ a
then_equal Less = refl
then_equal Equal = refl
then_equal Greater = refl

then_assoc : (a b c : Ordering) → ordering_then a (ordering_then b c) ≡ ordering_then (ordering_then a b) c
then_assoc Less b c = refl
then_assoc Equal b c = refl
then_assoc Greater b c = refl

-- one more byte behind lists of one length
cmp_one_more : (p q : List ℕ) (x y : ℕ) → length p ≡ length q →
    slice_cmp nat_cmp (p ++ x ∷ []) (q ++ y ∷ []) ≡ ordering_then (slice_cmp nat_cmp p q) (nat_cmp x y)
cmp_one_more [] [] x y e = then_equal (nat_cmp x y)
cmp_one_more (a ∷ p) (b ∷ q) x y e =
    ap (ordering_then (nat_cmp a b)) (cmp_one_more p q x y (omega arith)) ∙ then_assoc (nat_cmp a b) _ _
cmp_one_more p q x y e = absurd (omega arith)

length_raw : (n : ℕ) (text : Text) → is_tiny_text n text ≡ true → length (raw_of n text) ≡ n
length_raw n text tiny = simp (length-append, length-replicate) (omega (arith, length-le-tiny n text tiny))

three : (p : List ℕ) (x : ℕ) → length p ≡ 3 →
    get_or p 0 0 ∷ get_or p 1 0 ∷ get_or p 2 0 ∷ x ∷ [] ≡ p ++ x ∷ []
three (a ∷ b ∷ c ∷ []) x e = refl
three p x e = absurd (omega arith)

parted : (q : List ℕ) → length q ≡ 4 → q ≡ get_or q 0 0 ∷ drop 1 q
parted [] e = absurd (omega arith)
parted (x ∷ q) e = refl

pub begins : (r s r' s' p q : Text) → p ≡ raw_of 3 r' → is_tiny_text 3 r' ≡ true → q ≡ raw_of 4 s'
    → is_tiny_text 4 s' ≡ true → r' ≡ r → s' ≡ s →
    IsBeginning r s (get_or p 0 0 ∷ get_or p 1 0 ∷ get_or p 2 0 ∷ get_or q 0 0 ∷ [])
begins r s r' s' p q ep tp eq tq er es = record {
  first = get_or q 0 0;
  rest = drop 1 q;
  region_tiny = ap (is_tiny_text 3) (sym er) ∙ tp;
  suffix_tiny = ap (is_tiny_text 4) (sym es) ∙ tq;
  suffix_raw = ap (raw_of 4) (sym es) ∙ sym eq ∙ parted q (ap length eq ∙ length_raw 4 s' tq);
  bytes_are = three p (get_or q 0 0) (ap length ep ∙ length_raw 3 r' tp)
      ∙ ap (λ xs. xs ++ get_or q 0 0 ∷ []) (ep ∙ ap (raw_of 3) er);
}

equal_first : (a b c : Ordering) → Equal ≡ ordering_then a b → c ≡ ordering_then a c
equal_first Less b c e = cc
equal_first Equal b c e = refl
equal_first Greater b c e = cc

settled : (o c : Ordering) → o ≢ Equal → o ≡ ordering_then o c
settled Less c n = refl
settled Equal c n = absurd (n refl)
settled Greater c n = refl

module _ (r q s t bytes others : Text) (h : IsBeginning r s bytes) (k : IsBeginning q t others) where
  begun : slice_cmp nat_cmp bytes others ≡ ordering_then (slice_cmp nat_cmp r q) (nat_cmp h.first k.first)
  begun = (λ i. slice_cmp nat_cmp (h.bytes_are i) (k.bytes_are i))
      ∙ cmp_one_more (raw_of 3 r) (raw_of 3 q) h.first k.first
      (length_raw 3 r h.region_tiny ∙ sym (length_raw 3 q k.region_tiny))
      ∙ ap (λ o. ordering_then o (nat_cmp h.first k.first)) (cmp_of_texts 3 r q h.region_tiny k.region_tiny)

  suffixes : slice_cmp nat_cmp s t ≡ ordering_then (nat_cmp h.first k.first) (slice_cmp nat_cmp h.rest k.rest)
  suffixes = sym (cmp_of_texts 4 s t h.suffix_tiny k.suffix_tiny)
      ∙ (λ i. slice_cmp nat_cmp (h.suffix_raw i) (k.suffix_raw i))

  pub by_suffix : Equal ≡ slice_cmp nat_cmp bytes others →
      slice_cmp nat_cmp s t ≡ ordering_then (slice_cmp nat_cmp r q) (slice_cmp nat_cmp s t)
  by_suffix e = equal_first (slice_cmp nat_cmp r q) _ _ (e ∙ begun)

  pub by_beginning : (o : Ordering) → o ≡ slice_cmp nat_cmp bytes others → o ≢ Equal →
      o ≡ ordering_then (slice_cmp nat_cmp r q) (slice_cmp nat_cmp s t)
  by_beginning o e other =
      settled o _ other
      ∙ ap (λ d. ordering_then d (slice_cmp nat_cmp h.rest k.rest)) (e ∙ begun)
      ∙ sym (then_assoc (slice_cmp nat_cmp r q) (nat_cmp h.first k.first) (slice_cmp nat_cmp h.rest k.rest))
      ∙ ap (ordering_then (slice_cmp nat_cmp r q)) (sym suffixes)
