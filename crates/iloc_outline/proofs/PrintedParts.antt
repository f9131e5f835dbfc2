-- The parts of good blocks, by the ranks of these, print what the blocks mean.
use Rattle.std.proofs.Common.{◌≡◌, ◌≢◌, ℕ, ◌<◌, ◌==◌, Bool, true, false, cond, List, [], ◌∷◌, ◌++◌, map, flat_map, filter_map, refl, sym, ap, ◌∙◌, arith, Option, Some, None, append_assoc, append-nil, nat_le}
use Rattle.std.specs.List.{AllByRecursion}
use Rattle.std.specs.Char.{is_ascii_alphanumeric, to_ascii_lowercase}
use Rattle.std.specs.Ordering.{nat_cmp, eq_by_cmp, is_lt}
use Rattle.std.specs.Cmp.{nat_cmp_total}
use Rattle.std.specs.FinMap.{find, is_sorted, nat_cmp-IsAntisymmetric}
use Rattle.std.specs.FinMap.Entries.{below_all}
use Rattle.std.proofs.lemmas.Bool.{and_parts, cond_both, ne_eqb}
use Rattle.std.proofs.lemmas.Bool.Decides.{nat_tests}
use Rattle.std.proofs.lemmas.List.Folds.{flat_map-map}
use Rattle.std.proofs.lemmas.List.Concat.{flat_map-append}
use Rattle.std.proofs.lemmas.Simd.{map-map}
use Rattle.std.proofs.lemmas.Str.Ascii.{lowercase-lowercase}
use Rattle.std.proofs.lemmas.List.{map-append}
use Rattle.iloc_spec_grammar.specs.Syntax.{code_u, Text, LanguageLengths, Block, code_t, code_x, lower, kept, languages, is_other_singleton, lower_singleton, tail_blocks}
use Rattle.iloc_spec_grammar.specs.Meaning.{map_of, no_transform, no_unicode}
use Rattle.iloc_spec_grammar.specs.Tree.{Extension, unicode_part, transform_part, private_part, other_part, by_singleton, extensions_meaning, before_t, after_t}
use Rattle.iloc_spec_grammar.specs.Values.{unicode_spelling, transform_spelling, other_spelling, private_spelling, extensions_spelling}
use Rattle.iloc_spec_grammar.specs.Reading.{extension_of, extensions_in, private_in, written_of}
use Rattle.iloc_spec_grammar.specs.Computing.{is_block, first_fault}
use Rattle.iloc_spec_grammar.proofs.FaultLaws.{EndsAtX, tail_ends}
use Rattle.iloc_spec_grammar.proofs.General.{all_of, all_mapped, map-same}
use Rattle.iloc_spec_grammar.proofs.MapLaws.{all-map_of, is_sorted-map_of, map_of_same}
use Rattle.iloc_spec_grammar.proofs.ReadBack.{all_append}
use Rattle.iloc_spec_grammar.proofs.PartTexts.{spelling_of_parts, private_spelling_none}
use Rattle.iloc_spec_grammar.proofs.ValuesLaws.{all_weaker}
use Rattle.iloc_spec_grammar.proofs.Singletons.{of_u, of_t, of_x, another, kind_of, lower_letter, no_t, no_u, no_x, tied, untied}
use Rattle.iloc_outline.specs.Parts.{Part, rank, ranked, blocks_parts, printed_part}
use Rattle.iloc_outline.proofs.Maps.{map_of_carried, put_between, flat, flat-append, flat-last}
use Rattle.iloc_outline.proofs.PrintedBlocks.{spelled, block_printed}

-- ---- good blocks

abbrev IsGood : LanguageLengths → Block → Type 0
IsGood T b = (is_ascii_alphanumeric b.0 ≡ true) × (is_block T b ≡ true)

-- blocks without a fault are good, each alone
pub each_good : (T : LanguageLengths) (seen : Text) (bs : List Block) → first_fault T seen bs ≡ None
    → AllByRecursion (IsGood T) bs
each_good T seen [] h = tt
each_good T seen (b ∷ bs) h = grind (arith, each_good T (lower_singleton b ∷ seen) bs)

-- ---- what is read of blocks whose singletons are in lower case

abbrev extensions_at : List Block → List (ℕ × Extension)
extensions_at [] = []
extensions_at (b ∷ bs) = cond (b.0 == code_x) [] ((b.0, extension_of b.0 b.1) ∷ extensions_at bs)

abbrev private_at : List Block → List Text
private_at [] = []
private_at (b ∷ bs) = cond (b.0 == code_x) (map lower b.1) (private_at bs)

low_extensions : (bs : List Block) → by_singleton (extensions_in bs) ≡ extensions_at (by_singleton bs)
low_extensions [] = refl
low_extensions (b ∷ bs) = grind (arith, low_extensions bs)

low_private : (bs : List Block) → private_part (private_in bs) ≡ private_at (by_singleton bs)
low_private [] = refl
low_private (b ∷ bs) = grind (arith, low_private bs)

-- ---- what is printed of it, by ranks

abbrev shown_other : Block → ℕ × List Text
shown_other o = (o.0, other_spelling o)

-- `t`, `u`, `x` and the others
abbrev shown : List (ℕ × Extension) → List Text → List (ℕ × List Text)
shown es x = (code_t, transform_spelling (transform_part (find nat_cmp code_t es))) ∷
    (code_u, unicode_spelling (unicode_part (find nat_cmp code_u es)))
    ∷ (255, private_spelling x) ∷ map shown_other (filter_map other_part es)

abbrev shown_blocks : List Block → List (ℕ × List Text)
shown_blocks bs = map (λ b. (rank b.0, spelled b.0 b.1)) bs

abbrev nothing : List (ℕ × List Text)
nothing = (code_t, []) ∷ (code_u, []) ∷ (255, []) ∷ []

-- a test that is repeated, and tests in another order
shadowed : {A : Type 0} (b : Bool) (x y z : A) → cond b x z ≡ cond b x (cond b y z)
shadowed true x y z = refl
shadowed false x y z = refl

swapped : {A : Type 0} (q k l : ℕ) → k ≢ l → (x y z : A)
    → cond (eq_by_cmp nat_cmp q k) x (cond (eq_by_cmp nat_cmp q l) y z)
    ≡ cond (eq_by_cmp nat_cmp q l) y (cond (eq_by_cmp nat_cmp q k) x z)
swapped q k l n x y z = grind (arith, tied)

no_transform_shown : transform_spelling no_transform ≡ []
unfolding transform_spelling
no_transform_shown = refl

no_unicode_shown : unicode_spelling no_unicode ≡ []
unfolding unicode_spelling
no_unicode_shown = refl

-- both find the same
abbrev Agree : List Block → ℕ → Type 0
Agree bs q = find nat_cmp q (shown (extensions_at bs) (private_at bs))
    ≡ find nat_cmp q (shown_blocks bs ++ nothing)

at_t : (ps : List Text) (bs : List Block) (q : ℕ) → Agree bs q → Agree ((code_t, ps) ∷ bs) q
at_t ps bs q e = grind (arith, shadowed, spelled)

at_u : (ps : List Text) (bs : List Block) (q : ℕ) → Agree bs q → Agree ((code_u, ps) ∷ bs) q
at_u ps bs q e = grind (arith, shadowed, swapped, spelled)

at_x : (ps : List Text) (q : ℕ) → Agree ((code_x, ps) ∷ []) q
at_x ps q = grind (arith, no_transform_shown, no_unicode_shown, shadowed, spelled, swapped)

other_below : (c : ℕ) → is_other_singleton c ≡ true → c < 255
other_below c o = grind (arith, nat_tests)

at_other : (c : ℕ) (ps : List Text) (bs : List Block) (q : ℕ) → is_other_singleton c ≡ true → Agree bs q
    → Agree ((c, ps) ∷ bs) q
at_other c ps bs q o e =
    let t : (c == code_t) ≡ false = ne_eqb _ _ (λ k. no_t c k o) in
    let u : (c == code_u) ≡ false = ne_eqb _ _ (λ k. no_u c k o) in
    let x : (c == code_x) ≡ false = ne_eqb _ _ (λ k. no_x c k o) in
    let a : eq_by_cmp nat_cmp code_t c ≡ false = untied code_t c (λ k. no_t c k o) in
    let b : eq_by_cmp nat_cmp code_u c ≡ false = untied code_u c (λ k. no_u c k o) in
    let s : Option (List Text) = Some (other_spelling (c, kept ps)) in
    rw (x, t, u, a, b) (
    ap (cond (eq_by_cmp nat_cmp q code_t) _) (cc (
      swapped q 255 c
          (λ k. let m = other_below c o in omega arith) _ s _,
      swapped q code_u c (λ k. no_u c (sym k) o) _ s _,
    ))
    ∙ swapped q code_t c (λ k. no_t c (sym k) o) _ s _ ∙ ap (cond (eq_by_cmp nat_cmp q c) s) e
    )

agree : (bs : List Block) → EndsAtX bs → AllByRecursion
    (λ b. (to_ascii_lowercase b.0 ≡ b.0) × (is_ascii_alphanumeric b.0 ≡ true)) bs → (q : ℕ) → Agree bs q
agree [] x h q = simp (no_transform_shown, no_unicode_shown, private_spelling_none)
agree (b ∷ bs) x h q = grind (
  arith,
  kind_of,
  of_t,
  at_t,
  of_u,
  at_u,
  of_x,
  at_x,
  another,
  at_other,
  agree bs x.1 h.1 q,
)

-- ---- its order is that of the text

abbrev IsOtherKey : Block → Type 0
IsOtherKey o = is_other_singleton o.0 ≡ true

before_low : (os : List Block) → AllByRecursion IsOtherKey os →
    AllByRecursion (λ o. o.0 < code_t) (before_t os)
before_low [] h = tt
before_low (o ∷ os) h = grind (arith, cond_both, nat_tests, before_low os h.1)

-- keys above `u` and below the rank of `x`
abbrev IsBetween : Block → Type 0
IsBetween o = (code_u < o.0) × (o.0 < 255)

above_each : (k : ℕ) (os : List Block) → code_t < k → below_all nat_cmp k os ≡ true
    → AllByRecursion IsOtherKey os → AllByRecursion IsBetween os
above_each k [] l b h = tt
above_each k (o ∷ os) l b h =
    let parts = and_parts _ _ b in
    ((above k o.0 l parts.0 h.0, other_below o.0 h.0), above_each k os l parts.1 h.1)
  where
    above : (k c : ℕ) → code_t < k → is_lt (nat_cmp k c) ≡ true → is_other_singleton c ≡ true → code_u < c
    above k c l e o = grind (arith, nat_tests)

after_high : (os : List Block) → is_sorted nat_cmp os ≡ true → AllByRecursion IsOtherKey os
    → AllByRecursion IsBetween (after_t os)
after_high [] s h = tt
after_high (o ∷ os) s h =
    let parts = and_parts _ _ s in
    cond_both (nat_le o.0 code_t) _ _ (AllByRecursion IsBetween) (λ _. after_high os parts.1 h.1)
    (λ e. ((above o.0 h.0 e, other_below o.0 h.0), above_each o.0 os (later o.0 e) parts.0 h.1))
  where
    later : (c : ℕ) → nat_le c code_t ≡ false → code_t < c
    later c e = grind (arith, nat_tests)

    above : (c : ℕ) → is_other_singleton c ≡ true → nat_le c code_t ≡ false → code_u < c
    above c o e = grind (arith, nat_tests)

before_after : (os : List Block) → before_t os ++ after_t os ≡ os
before_after [] = refl
before_after (o ∷ os) = grind (arith, before_after os)

-- the map of what is shown, by ranks
shown_in_order : (es : List (ℕ × Extension)) (x : List Text)
    → AllByRecursion IsOtherKey (filter_map other_part es)
    → flat (map_of nat_cmp (shown es x)) ≡ extensions_spelling
    (record {
      unicode = unicode_part (find nat_cmp code_u es);
      transform =
          transform_part (find nat_cmp code_t es);
      private = x;
      others =
          map_of nat_cmp (filter_map other_part es);
    })
shown_in_order es x h =
    let os : List Block = map_of nat_cmp (filter_map other_part es) in
    let keys : AllByRecursion IsOtherKey os = all-map_of nat_cmp nat_cmp-IsAntisymmetric IsOtherKey
    (filter_map other_part es) h in
    let before : List (ℕ × List Text) = map shown_other (before_t os) in
    let after : List (ℕ × List Text) = map shown_other (after_t os) in
    let t : List Text = transform_spelling (transform_part (find nat_cmp code_t es)) in
    let u : List Text = unicode_spelling (unicode_part (find nat_cmp code_u es)) in
    let last : List (ℕ × List Text) = (255, private_spelling x) ∷ [] in
    let low : AllByRecursion (λ e. e.0 < code_t) before =
    search (all_mapped, before_low) in
    let high : AllByRecursion (λ e. (code_u < e.0) × (e.0 < 255)) after =
    all_mapped IsBetween _ shown_other (λ o k. k) (after_t os)
    (after_high os (is_sorted-map_of nat_cmp nat_cmp_total (filter_map other_part es)) keys) in
    let others : map_of nat_cmp (map shown_other (filter_map other_part es)) ≡ before ++ after =
    cc (
      map_of_carried nat_cmp nat_cmp nat_cmp-IsAntisymmetric nat_cmp-IsAntisymmetric (λ _. Unit {0})
          (λ (o : Block). o.0) (λ o. other_spelling o) (λ e f _ _. refl) (filter_map other_part es)
          (all_of _ (λ _. tt) (filter_map other_part es)),
      before_after os,
      map-append shown_other (before_t os) (after_t os),
    ) in
    let in_order : map_of nat_cmp (shown es x) ≡ before ++ (code_t, t) ∷ (code_u, u) ∷ (after ++ last) =
    cc (
      others,
      append-nil (before ++ after),
      put_between 255 (private_spelling x) (before ++ after) []
          (all_append (λ e. e.0 < 255) before after (all_weaker _ _ (λ e k. omega arith) before low)
          (all_weaker _ _ (λ e k. k.1) after high)) tt,
      append_assoc before after last,
      put_between code_u u before (after ++ last) (all_weaker _ _ (λ e k. omega arith) before low)
          (all_append (λ e. code_u < e.0) after last (all_weaker _ _ (λ e k. k.0) after high)
          (omega arith, tt)),
      put_between code_t t before ((code_u, u) ∷ (after ++ last)) low (
        omega arith,
        all_append (λ e. code_t < e.0) after last
            (all_weaker _ _ (λ e k. omega arith) after high) (omega arith, tt),
      ),
    ) in
    grind (arith, flat, flat-append, flat_map-map, append-nil, spelling_of_parts)

-- ---- the law

others_at : (bs : List Block) → AllByRecursion (λ b. is_ascii_alphanumeric b.0 ≡ true) bs
    → AllByRecursion IsOtherKey (filter_map other_part (extensions_at bs))
others_at [] h = tt
others_at (b ∷ bs) h = grind (
  arith,
  kind_of,
  of_t,
  of_u,
  of_x,
  another,
  ne_eqb,
  no_t,
  no_u,
  no_x,
  others_at bs h.1,
)

ends_low : (bs : List Block) → EndsAtX bs → EndsAtX (by_singleton bs)
ends_low [] e = tt
ends_low (b ∷ bs) e = grind (arith, lowercase-lowercase, ends_low bs e.1)

-- an entry of which all parts are printed
abbrev printed_entry : ℕ × List Part → ℕ × List Text
printed_entry e = (e.0, flat_map printed_part e.1)

flat-printed : (es : List (ℕ × List Part)) → flat (map printed_entry es) ≡ flat_map printed_part (flat es)
flat-printed [] = refl
flat-printed (e ∷ es) = simp (flat_map-append, flat, flat-printed es)

-- what is printed of the parts of blocks that have no fault is what the blocks mean
pub blocks_text : (ps : List Text) → first_fault languages [] (tail_blocks ps) ≡ None
    → extensions_spelling (extensions_meaning (written_of ps))
    ≡ flat_map printed_part (blocks_parts (tail_blocks ps))
unfolding written_of
blocks_text ps h =
    let bs : List Block = tail_blocks ps in
    let low : List Block = by_singleton bs in
    let good : AllByRecursion (IsGood languages) bs = each_good languages [] bs h in
    let letters : AllByRecursion (λ b. (to_ascii_lowercase b.0 ≡ b.0)
    × (is_ascii_alphanumeric b.0 ≡ true)) low =
    all_mapped (IsGood languages) _ (λ (b : Block). (lower_singleton b, b.1))
    (λ b g. (lowercase-lowercase b.0, lower_letter b.0 g.0)) bs good in
    (search (low_extensions, low_private))
    ∙ sym (shown_in_order (extensions_at low) (private_at low)
    (others_at low (all_weaker _ _ (λ b k. k.1) low letters)))
    ∙ ap flat (map_of_same nat_cmp nat_cmp_total nat_cmp-IsAntisymmetric
    (shown (extensions_at low) (private_at low)) (shown_blocks low ++ nothing)
    (agree low (ends_low bs (tail_ends ps)) letters))
    ∙ ap (λ l. flat (map_of nat_cmp l)) (sym (append_assoc (shown_blocks low ++ (code_t, []) ∷ [])
    ((code_u, []) ∷ []) ((255, []) ∷ []) ∙ append_assoc (shown_blocks low) ((code_t, []) ∷ [])
    ((code_u, []) ∷ (255, []) ∷ [])))
    ∙ flat-last 255 ((shown_blocks low ++ (code_t, []) ∷ []) ++ (code_u, []) ∷ [])
    ∙ flat-last code_u (shown_blocks low ++ (code_t, []) ∷ []) ∙ flat-last code_t (shown_blocks low)
    ∙ sym (sym (flat-printed (map_of nat_cmp (map ranked bs)))
    ∙ ap flat (map_of_carried nat_cmp nat_cmp nat_cmp-IsAntisymmetric nat_cmp-IsAntisymmetric
    (λ _. Unit {0}) (λ (e : ℕ × List Part). e.0) (λ e. flat_map printed_part e.1) (λ e f _ _. refl)
    (map ranked bs) (all_of _ (λ _. tt) (map ranked bs))
    ∙ ap (map_of nat_cmp) (map-map printed_entry ranked bs
    ∙ map-same (λ b. printed_entry (ranked b)) (λ (b : Block).
    (rank (lower_singleton b), spelled (lower_singleton b) b.1)) bs
    (all_weaker (IsGood languages) _ (λ b g. ap (λ l. (rank (lower_singleton b), l))
    (block_printed languages b g.0 g.1)) bs good) ∙ sym (map-map {C = ℕ × List Text}
    (λ b. (rank b.0, spelled b.0 b.1)) (λ (b : Block). (lower_singleton b, b.1)) bs))))
