-- The fault of a text is the same by its blocks as by its tree.
use Rattle.std.proofs.Common.{arith, ◌≡◌, ◌⊎◌, inl, inr, ℕ, Bool, true, false, ◌||◌, List, [], ◌∷◌, ◌++◌, refl, sym, ap, ◌∙◌, true≢false, Result, Ok, Err, MatchResult, ◌↔◌, map}
use Rattle.std.specs.List.{list_any}
use Rattle.std.specs.Char.{is_ascii_alphanumeric}
use Rattle.std.specs.Ordering.{nat_cmp, eq_by_cmp}
use Rattle.std.proofs.Math.Bool.{or-false}
use Rattle.std.proofs.lemmas.Bool.{or_cases, cases_Bool, false_from_ne_true}
use Rattle.iloc_spec_grammar.specs.Syntax.{LanguageLengths, Block, code_t, Text, pieces, AreLengths, Language, is_word, lower_singleton, head, first_piece}
use Rattle.iloc_spec_grammar.specs.Tree.{HasSingleton, IsNew, TreeBlockFault, no_singleton, FirstBadBlock, here, later, HasTreeFault, no_language, no_identifier, bad_block}
use Rattle.iloc_spec_grammar.specs.Meaning.{Locale, Means, Fault, IsSecond, BlockFault, HasFault, in_head, in_block, HasBlockFault, not_a_language, not_an_identifier}
use Rattle.iloc_spec_grammar.specs.Computing.{locale_result}
use Rattle.iloc_spec_grammar.proofs.FaultLaws as trees
use Rattle.iloc_spec_grammar.proofs.FaultLaws.{AreGood, letter}
use Rattle.iloc_spec_grammar.proofs.Singletons.{lower_letter, tied}
use Rattle.iloc_spec_grammar.proofs.SameMeaning.{good_blocks, blocks_spelled, good_text, tree_means}

-- what was seen before a block are the singletons of the good blocks before it

abbrev seen_after : Text → List Block → Text
seen_after seen [] = seen
seen_after seen (b ∷ bs) = seen_after (lower_singleton b ∷ seen) bs

shuffle : (x y z : Bool) → (x || (y || z)) ≡ ((y || x) || z)
shuffle true true z = refl
shuffle true false z = refl
shuffle false true z = refl
shuffle false false z = refl

any_seen : (c : ℕ) (seen : List ℕ) (bs : List Block) →
    list_any (eq_by_cmp nat_cmp c) (seen_after seen bs)
    ≡ (list_any (eq_by_cmp nat_cmp c) (map (λ d. lower_singleton d) bs)
    || list_any (eq_by_cmp nat_cmp c) seen)
any_seen c seen [] = refl
any_seen c seen (b ∷ bs) = simp (shuffle, any_seen c (lower_singleton b ∷ seen) bs)

seen_is : (b : Block) (good : List Block) →
    list_any (eq_by_cmp nat_cmp (lower_singleton b)) (seen_after [] good)
    ≡ list_any (eq_by_cmp nat_cmp (lower_singleton b)) (map (λ c. lower_singleton c) good)
seen_is b good = rw (any_seen, or-false)

is_new : (b : Block) (good : List Block) → ¬ (IsSecond good b) →
    IsNew (seen_after [] good) b
is_new b good n = seen_is b good ∙ false_from_ne_true _ n

no_second : (b : Block) (good : List Block) → IsNew (seen_after [] good) b →
    ¬ (IsSecond good b)
no_second b good e s = true≢false (sym s ∙ sym (seen_is b good) ∙ e)

second_letter : (T : LanguageLengths) (seen : List ℕ) (b : Block) (good : List Block) →
    AreGood T seen good → IsSecond good b → HasSingleton b
second_letter T seen b [] g s = cc
second_letter T seen b (c ∷ cs) g s =
    elim (or_cases (eq_by_cmp nat_cmp (lower_singleton b) (lower_singleton c)) _ s) [
      | inl e ↦ grind (arith, letter, tied, lower_letter)
      | inr e ↦ second_letter T (lower_singleton c ∷ seen) b cs g.1 e
    ]

t_letter : (b : Block) → lower_singleton b ≡ code_t → HasSingleton b
t_letter b e = letter b.0 (rw e refl)

-- the fault of one block

pub tree_block_fault : (T : LanguageLengths) (good : List Block) (b : Block) {f : Fault} →
    AreGood T [] good → BlockFault T good b f → TreeBlockFault T (seen_after [] good) b f
tree_block_fault T good b g (BlockFault.duplicated s) =
    TreeBlockFault.duplicated (second_letter T [] b good g s) (seen_is b good ∙ s)
tree_block_fault T good b g (BlockFault.repeats_variant n r) =
    TreeBlockFault.repeats_variant (t_letter b r.0) (is_new b good n) r.0 r.1
tree_block_fault T good b g (BlockFault.breaks_rule n m d) = elim (cases_Bool (is_ascii_alphanumeric b.0)) [
  | inl e ↦ TreeBlockFault.breaks_rule e (is_new b good n) m (λ r. d (blocks_spelled ((e, refl, r), tt)))
  | inr e ↦ no_singleton e
]

pub block_fault_by_tree : (T : LanguageLengths) (good : List Block) (b : Block)
    {f : Fault} →
    AreGood T [] good → TreeBlockFault T (seen_after [] good) b f → BlockFault T good b f
block_fault_by_tree T good b g (no_singleton e) =
    BlockFault.breaks_rule (grind (arith, second_letter))
    (λ r. true≢false (sym (t_letter b r.0) ∙ e)) (λ k. true≢false (sym (good_blocks k.1).0.0 ∙ e))
block_fault_by_tree T good b g (TreeBlockFault.duplicated a e) =
    BlockFault.duplicated (sym (seen_is b good) ∙ e)
block_fault_by_tree T good b g (TreeBlockFault.repeats_variant a e t r) =
    BlockFault.repeats_variant (no_second b good e) (t, r)
block_fault_by_tree T good b g (TreeBlockFault.breaks_rule a e n d) =
    BlockFault.breaks_rule (no_second b good e) n (λ k. d (good_blocks k.1).0.2)

-- the first bad block

after_good : (T : LanguageLengths) (seen : List ℕ) (good : List Block) (b : Block)
    (rest : List Block) {f : Fault} →
    AreGood T seen good → TreeBlockFault T (seen_after seen good) b f →
    FirstBadBlock T seen (good ++ (b ∷ rest)) f
after_good T seen [] b rest g x = here x
after_good T seen (c ∷ cs) b rest g x =
    later g.0.0 g.0.1 g.0.2 (after_good T (lower_singleton c ∷ seen) cs b rest g.1 x)

record BadSplit (T : LanguageLengths) (seen : List ℕ) (bs : List Block) (f : Fault) : Type 0 where
  before : List Block
  block : Block
  rest : List Block
  parts : bs ≡ before ++ (block ∷ rest)
  good : AreGood T seen before
  bad : TreeBlockFault T (seen_after seen before) block f

bad_split : (T : LanguageLengths) {seen : List ℕ} {bs : List Block} {f : Fault} →
    FirstBadBlock T seen bs f → BadSplit T seen bs f
bad_split T (here {b = b} {bs = bs} x) =
    record { before = []; block = b; rest = bs; parts = refl; good = tt; bad = x }
bad_split T (later {b = b} a e g x) = let r = bad_split T x in record {
  before = b ∷ r.before;
  block = r.block;
  rest = r.rest;
  parts = ap (λ l. b ∷ l) r.parts;
  good = ((a, e, g), r.good);
  bad = r.bad;
}

pub fault_of_first : {T : ℕ → Bool} {bs : List Block} {f : Fault} → FirstBadBlock T [] bs f →
    HasBlockFault T bs f
fault_of_first {T = T} x = grind (arith, bad_split, blocks_spelled, block_fault_by_tree)

-- whole texts

pub first_of_head : (ps : List Text) → first_piece (head ps) ≡ first_piece ps
first_of_head [] = refl
first_of_head (p ∷ ps) = refl

language_of_head : (T : LanguageLengths) (t : Text) →
    is_word (Language T) (first_piece (head (pieces t))) ≡ is_word (Language T) (first_piece (pieces t))
language_of_head T t = rw first_of_head

pub tree_fault : {T : ℕ → Bool} (t : Text) {f : Fault} → HasFault T t f → HasTreeFault T t f
tree_fault {T = T} t (in_head (not_a_language e)) = no_language (sym (language_of_head T t) ∙ e)
tree_fault {T = T} t (in_head (not_an_identifier l n)) = no_identifier (sym (language_of_head T t) ∙ l) n
tree_fault t (in_block s x) = bad_block s (grind (arith, good_blocks, after_good, tree_block_fault))

pub fault_by_tree : {T : ℕ → Bool} (t : Text) {f : Fault} → HasTreeFault T t f → HasFault T t f
fault_by_tree {T = T} t (no_language e) = in_head (not_a_language (language_of_head T t ∙ e))
fault_by_tree {T = T} t (no_identifier l n) = in_head (not_an_identifier (language_of_head T t ∙ l) n)
fault_by_tree t (bad_block s x) = in_block s (fault_of_first x)

pub same_fault : (T : LanguageLengths) (t : Text) (f : Fault) → HasFault T t f ↔ HasTreeFault T t f
same_fault T t f = (λ h. tree_fault t h, λ h. fault_by_tree t h)

-- a text is a locale or has a fault, never both, and one fault at most

pub answered : (T : LanguageLengths) (t : Text) → MatchResult (locale_result T t) (Means T t) (HasFault T t)
answered T t = with_fault (locale_result T t) (trees.answered_by T t (Means T t) (good_text T t))
  where
    with_fault : (r : Result Locale Fault) → MatchResult r (Means T t) (HasTreeFault T t) →
        MatchResult r (Means T t) (HasFault T t)
    with_fault (Ok M) m = m
    with_fault (Err f) h = fault_by_tree t h

pub means_answered : {T : ℕ → Bool} → AreLengths T → (t : Text) (M : Locale) → Means T t M →
    locale_result T t ≡ Ok M
means_answered table t M m = trees.means_answered table t M (tree_means t M m)

pub fault_answered : (T : LanguageLengths) (t : Text) {f : Fault} → HasFault T t f → locale_result T t ≡ Err f
fault_answered T t h = trees.fault_answered T t (tree_fault t h)

pub accepted_or_fault : (T : LanguageLengths) (t : Text) →
    ((M : Locale) × Means T t M) ⊎ ((f : Fault) × HasFault T t f)
accepted_or_fault T t = trees.either (locale_result T t) (answered T t)

pub accepted_no_fault : {T : ℕ → Bool} → AreLengths T → (t : Text) (M : Locale) (f : Fault) → Means T t M →
    HasFault T t f → ⊥
accepted_no_fault table t M f m h = trees.accepted_no_fault table t M f (tree_means t M m) (tree_fault t h)

pub one_fault : {T : ℕ → Bool} (t : Text) {f g : Fault} → HasFault T t f → HasFault T t g → f ≡ g
one_fault t h k = trees.one_fault t (tree_fault t h) (tree_fault t k)
