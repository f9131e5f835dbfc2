-- A text means a value block by block as its tree does.
use Rattle.std.proofs.Common.{◌≡◌, ◌≢◌, ◌⊎◌, inr, ℕ, Bool, true, false, cond, List, [], ◌∷◌, ◌++◌, map, filter_map, refl, sym, ap, ◌∙◌, subst, arith, Option, Some, None, IfSome, option_map, option_to_list}
use Rattle.std.specs.List.{AllByRecursion, list_any}
use Rattle.std.specs.Ordering.{nat_cmp, eq_by_cmp}
use Rattle.std.specs.FinMap.{find}
use Rattle.std.proofs.lemmas.Bool.{or_parts, false_from_ne_true}
use Rattle.iloc_spec_grammar.specs.Syntax.{LanguageLengths, Block, code_x, code_u, code_t, Text, pieces, AreLengths, Unicode, Transform, IsOther, kept, is_other_singleton, lower_singleton, AllDifferent, head, tail_blocks, IsPrivate}
use Rattle.iloc_spec_grammar.specs.Tree.{Extension, unicode, transform, other, Written, extension_pieces, extension_block, blocks_of, IsExtension, IsWritten, TreeMeans, meaning, extensions_meaning, unicode_part, transform_part, private_part, other_part, by_singleton, IsBlock, HasSingleton}
use Rattle.iloc_spec_grammar.specs.Meaning.{Locale, Extensions, SpellsIdentifier, map_of, no_unicode, no_transform, normal_unicode, other_blocks}
use Rattle.iloc_spec_grammar.specs.ByBlocks.{UnicodeMeans, TransformMeans, PrivateMeans, OtherMeans, grammar_rules, PartIs, BlocksGive, MeansByBlocks}
use Rattle.iloc_spec_grammar.proofs.Readings.{head-spelling, blocks-spelling, unicode_of-pieces, transform_of-pieces}
use Rattle.iloc_spec_grammar.specs.Reading.{unicode_of, written_of}
use Rattle.iloc_spec_grammar.proofs.IdentifierLaws.{one_meaning}
use Rattle.iloc_spec_grammar.proofs.FaultLaws.{AreGood, good_means, good_from, block_rules, different_by, good_written, pieces-written_of, blocks_read}
use Rattle.iloc_spec_grammar.proofs.Singletons.{tied, untied, self_tied, IsKind, of_u, of_t, of_x, another, kind_of, lower_letter, find_holds}
use Rattle.iloc_spec_grammar.proofs.General.{all_of}
use Rattle.iloc_spec_grammar.proofs.ValuesLaws.{all_weaker, all_both}

-- looking up a block

or_else : {X : Type 0} → Option X → Option X → Option X
or_else None p = p
or_else (Some x) p = Some x

find_block : (q : ℕ) (es : List (ℕ × Extension)) (x : Option Block) →
    find nat_cmp q (by_singleton (map extension_block es ++ option_to_list x))
    ≡ or_else (option_map extension_pieces (find nat_cmp q (by_singleton es)))
    (find nat_cmp q (by_singleton (option_to_list x)))
unfolding or_else
find_block q [] x = refl
find_block q (e ∷ es) x = grind (arith, or_else, find_block q es x)

-- what is found gives its part

unicode_by : (T : LanguageLengths) (o : Option Extension) → IfSome o (IsExtension T code_u) →
    (p : Option (List Text)) → p ≡ None →
    PartIs UnicodeMeans no_unicode (or_else (option_map extension_pieces o) p) (unicode_part o)
unfolding or_else
unicode_by T None h p e = grind arith
unicode_by T (Some (unicode u)) h p e = search
unicode_by T (Some (transform m)) h p e = absurd (let k = h.0 in omega arith)
unicode_by T (Some (other ps)) h p e = cc

transform_by : (T : LanguageLengths) (o : Option Extension) → IfSome o (IsExtension T code_t) →
    (p : Option (List Text)) → p ≡ None →
    PartIs (TransformMeans T) no_transform (or_else (option_map extension_pieces o) p) (transform_part o)
unfolding or_else
transform_by T None h p e = grind arith
transform_by T (Some (transform m)) h p e = search
transform_by T (Some (unicode u)) h p e = absurd (let k = h.0 in omega arith)
transform_by T (Some (other ps)) h p e = cc

private_by : (T : LanguageLengths) (o : Option Extension) → IfSome o (IsExtension T code_x) →
    (x : Option Block) → IfSome x (λ e. (lower_singleton e ≡ code_x) × IsPrivate e.1) →
    PartIs PrivateMeans []
    (or_else (option_map extension_pieces o) (find nat_cmp code_x (by_singleton (option_to_list x))))
    (private_part x)
unfolding or_else
private_by T None h None k = refl
private_by T None h (Some b) k = grind arith
private_by T (Some (other ps)) h x k = cc
private_by T _ h x k = absurd (let k = h.0 in omega arith)

-- the others

abbrev kept_of : Block → Block
kept_of b = (b.0, kept b.1)

abbrev pub KeepsWords : Block → Type 0
KeepsWords b = OtherMeans b.1 (kept b.1)

no_others_private : (x : Option Block) →
    IfSome x (λ e. (lower_singleton e ≡ code_x) × IsPrivate e.1) →
    other_blocks (option_to_list x) ≡ []
no_others_private None h = refl
no_others_private (Some b) h = cc

others_by : (T : LanguageLengths) (es : List (ℕ × Extension)) (x : Option Block) →
    AllByRecursion (λ e. IsExtension T (lower_singleton e) e.1) es →
    IfSome x (λ e. (lower_singleton e ≡ code_x) × IsPrivate e.1) →
    (filter_map other_part (by_singleton es)
    ≡ map kept_of (other_blocks (map extension_block es ++ option_to_list x)))
    × AllByRecursion KeepsWords (other_blocks (map extension_block es ++ option_to_list x))
others_by T [] x h k = search no_others_private
others_by T (e ∷ es) x h k = grind (arith, others_by T es x h.1 k)

pub blocks_give : (T : LanguageLengths) (w : Written) → IsWritten T w →
    BlocksGive (grammar_rules T) (blocks_of w) (extensions_meaning w)
blocks_give T w h =
    let o = others_by T w.extensions w.private h.extensions h.private in record {
      letters = all_weaker (λ b. HasSingleton b × IsBlock T b) (λ b. HasSingleton b) (λ b k. k.0) _
          (block_rules T w.extensions w.private h.extensions h.private);
      different = different_by T w.extensions w.private h.extensions h.different h.private;
      unicode = rw (find_block code_u w.extensions w.private)
          (unicode_by T (find nat_cmp code_u (by_singleton w.extensions))
          (find_holds (IsExtension T) code_u w.extensions h.extensions) _
          (grind arith));
      transform = rw (find_block code_t w.extensions w.private)
          (transform_by T (find nat_cmp code_t (by_singleton w.extensions))
          (find_holds (IsExtension T) code_t w.extensions h.extensions) _
          (grind arith));
      private = rw (find_block code_x w.extensions w.private)
          (private_by T (find nat_cmp code_x (by_singleton w.extensions))
          (find_holds (IsExtension T) code_x w.extensions h.extensions) w.private h.private);
      each_other = o.1;
      others = ap (map_of nat_cmp) o.0;
    }

pub tree_by_blocks : (T : LanguageLengths) → AreLengths T → (t : Text) (M : Locale) → TreeMeans T t M →
    MeansByBlocks T t M
tree_by_blocks T table t M m = subst (MeansByBlocks T t) (sym m.means) (record {
  id = grind (arith, head-spelling);
  extensions = rw (sym (ap tail_blocks m.spelled ∙ blocks-spelling table m.written m.grammatical))
      at (blocks_give T m.written m.grammatical);
})

-- and back: each block follows its rule

abbrev pub RuleAt : (ℕ → Bool) → ℕ → List Text → Type 0
RuleAt T q ps =
    ((q ≡ code_x) × IsPrivate ps) ⊎ ((e : Extension) × IsExtension T q e × (ps ≡ extension_pieces e))

find_later : (P : List Text → Type 0) (q : ℕ) (b : Block) (bs : List Block) →
    list_any (eq_by_cmp nat_cmp (lower_singleton b)) (map (λ b. lower_singleton b) bs) ≡ false →
    IfSome (find nat_cmp q (by_singleton (b ∷ bs))) P → IfSome (find nat_cmp q (by_singleton bs)) P
find_later P q b bs d h =
    (elim (eq_by_cmp nat_cmp q (lower_singleton b)) as (λ t. eq_by_cmp nat_cmp q (lower_singleton b) ≡ t →
    IfSome (cond t (Some b.1) (find nat_cmp q (by_singleton bs))) P →
    IfSome (find nat_cmp q (by_singleton bs)) P) [
      | true ↦ λ t h. subst (λ (o : Option (List Text)). IfSome o P)
          (sym (none_found bs
          (grind (arith, tied)))) tt
      | false ↦ λ t h. h
    ]) refl h
  where
    none_found : (bs : List Block) →
        list_any (eq_by_cmp nat_cmp q) (map (λ b. lower_singleton b) bs) ≡ false →
        find nat_cmp q (by_singleton bs) ≡ None
    none_found [] d = refl
    none_found (b ∷ bs) d = let parts = or_parts _ _ d in
        ap (λ t. cond t (Some b.1) (find nat_cmp q (by_singleton bs))) parts.0 ∙ none_found bs parts.1

each_block : (P : ℕ → List Text → Type 0) (bs : List Block) →
    AllDifferent nat_cmp (map (λ b. lower_singleton b) bs) →
    ((q : ℕ) → IfSome (find nat_cmp q (by_singleton bs)) (P q)) →
    AllByRecursion (λ b. P (lower_singleton b) b.1) bs
each_block P [] d f = tt
each_block P (b ∷ bs) d f =
    grind (
      arith,
      self_tied,
      find_later,
      false_from_ne_true,
      each_block P bs d.1 (λ q. find_later (P q) q b bs (false_from_ne_true _ d.0) (f q)),
    )

-- only the rule of its singleton
abbrev KnownAt : (ℕ → Bool) → ℕ → List Text → Type 0
KnownAt T q ps = (q ≡ code_u → RuleAt T q ps) × (q ≡ code_t → RuleAt T q ps) × (q ≡ code_x → RuleAt T q ps)

part_rule : {X : Type 0} (T : LanguageLengths) (q : ℕ) (R : List Text → X → Type 0) →
    ((ps : List Text) (v : X) → R ps v → RuleAt T q ps) →
    (empty : X) (o : Option (List Text)) (v : X) → PartIs R empty o v → IfSome o (RuleAt T q)
part_rule T q R f empty None v h = tt
part_rule T q R f empty (Some ps) v h = f ps v h

known : (T : LanguageLengths) (q : ℕ) (f : ℕ → Option (List Text)) → IfSome (f code_u) (RuleAt T code_u) →
    IfSome (f code_t) (RuleAt T code_t) → IfSome (f code_x) (RuleAt T code_x) → IfSome (f q) (KnownAt T q)
known T q f u t x = grind arith

others_each : (bs : List Block) → AllByRecursion KeepsWords (other_blocks bs) →
    AllByRecursion (λ b. is_other_singleton (lower_singleton b) ≡ true → IsOther b.1) bs
others_each [] h = tt
others_each (b ∷ bs) h =
    (elim (is_other_singleton (lower_singleton b)) as (λ t. is_other_singleton (lower_singleton b) ≡ t →
    AllByRecursion KeepsWords
    (cond t ((lower_singleton b, b.1) ∷ other_blocks bs) (other_blocks bs)) →
    AllByRecursion (λ b. is_other_singleton (lower_singleton b) ≡ true → IsOther b.1) (b ∷ bs)) [
      | true ↦ λ t h. ((λ _. h.0.0), others_each bs h.1)
      | false ↦ λ t h. grind (arith, others_each bs h)
    ]) refl h

rule_of : (T : LanguageLengths) (b : Block) → KnownAt T (lower_singleton b) b.1 →
    (is_other_singleton (lower_singleton b) ≡ true → IsOther b.1) → IsKind (lower_singleton b) → IsBlock T b
rule_of T b k o (of_u e) = k.0 e
rule_of T b k o (of_t e) = k.1 e
rule_of T b k o (of_x e) = k.2 e
rule_of T b k o (another e) = inr (other b.1, (e, o e), refl)

pub blocks_good : (T : LanguageLengths) (bs : List Block) (e : Extensions) →
    BlocksGive (grammar_rules T) bs e → AreGood T [] bs
blocks_good T bs e m =
    let known_each =
    each_block (KnownAt T) bs m.different (λ q. known T q (λ q. find nat_cmp q (by_singleton bs))
    (part_rule T code_u UnicodeMeans (λ ps v h. inr (unicode h.written, (refl, h.grammatical), h.spelled))
    no_unicode _ e.unicode m.unicode)
    (part_rule T code_t (TransformMeans T)
    (λ ps v h. inr (transform h.written, (refl, h.grammatical), h.spelled)) no_transform _ e.transform
    m.transform)
    (grind (arith, part_rule))) in
    let rules = all_both _ _ bs m.letters (all_both _ _ bs known_each (others_each bs m.each_other)) in
    good_from T [] bs
    (all_weaker _ (λ b. HasSingleton b × IsBlock T b)
    (λ b k. search (rule_of, kind_of, lower_letter)) bs rules)
    m.different (all_of _ (λ b. refl) bs)

-- one value

one_part : {X : Type 0} (R : List Text → X → Type 0) →
    ((ps : List Text) (u v : X) → R ps u → R ps v → u ≡ v) →
    (empty : X) (o : Option (List Text)) (u v : X) → PartIs R empty o u → PartIs R empty o v → u ≡ v
one_part R f empty None u v a b = a ∙ sym b
one_part R f empty (Some ps) u v a b = f ps u v a b

one_unicode : (ps : List Text) (u v : Unicode) → UnicodeMeans ps u → UnicodeMeans ps v → u ≡ v
one_unicode ps u v a b = a.means
    ∙ ap normal_unicode (sym (unicode_of-pieces a.written a.grammatical)
    ∙ ap unicode_of (sym a.spelled ∙ b.spelled) ∙ unicode_of-pieces b.written b.grammatical)
    ∙ sym b.means

one_transform : (T : LanguageLengths) (ps : List Text) (m n : Transform) → TransformMeans T ps m →
    TransformMeans T ps n → m ≡ n
one_transform T ps m n a b = grind (arith, transform_of-pieces)

pub one_extensions : (T : LanguageLengths) (bs : List Block) (d e : Extensions) →
    BlocksGive (grammar_rules T) bs d → BlocksGive (grammar_rules T) bs e → d ≡ e
one_extensions T bs d e a b = grind (arith, one_part, one_unicode, one_transform)

pub one_by_blocks : (T : LanguageLengths) (t : Text) (L M : Locale) → MeansByBlocks T t L →
    MeansByBlocks T t M →
    L ≡ M
one_by_blocks T t L M a b = λ i. record {
  id = one_meaning (head (pieces t)) L.id M.id a.id b.id i;
  extensions =
      one_extensions T (tail_blocks (pieces t)) L.extensions M.extensions a.extensions b.extensions i;
}

-- good blocks after an identifier give what is read of them
pub read_by_blocks : (T : LanguageLengths) (t : Text) → SpellsIdentifier T (head (pieces t)) →
    AreGood T [] (tail_blocks (pieces t)) → MeansByBlocks T t (meaning (written_of (pieces t)))
read_by_blocks T t s g =
    let w = written_of (pieces t) in let h = good_written T t s g in record {
      id = grind (arith, pieces-written_of, head-spelling);
      extensions = rw (blocks_read (pieces t)) at (blocks_give T w h);
    }

pub blocks_tree : (T : LanguageLengths) (t : Text) (M : Locale) → MeansByBlocks T t M → TreeMeans T t M
blocks_tree T t M m =
    let s : SpellsIdentifier T (head (pieces t)) = (m.id.written, m.id.grammatical, m.id.spelled) in
    let g = blocks_good T (tail_blocks (pieces t)) M.extensions m.extensions in
    rw (one_by_blocks T t _ M (read_by_blocks T t s g) m) at (good_means T t s g)
