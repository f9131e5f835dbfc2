-- The laws of steps between texts, one and any number, by those of the tree.
use Rattle.std.proofs.Common.{arith, ◌≡◌, ◌↔◌, inl, inr, ℕ, zero, suc, ◌≤◌, false, List, [], ◌∷◌, length, sym, ap, ◌∙◌, ◌==◌, le_of_eq, le_trans}
use Rattle.std.specs.List.{AllByRecursion}
use Rattle.std.proofs.lemmas.Bool.{cases_Bool, cond_both, both_ways}
use Rattle.iloc_spec_grammar.specs.Syntax.{LanguageLengths, Block, code_x, Text, pieces, join, lower, AreLengths, Identifier, identifier_pieces, lower_singleton, is_one_byte, blocks, head, tail_blocks}
use Rattle.iloc_spec_grammar.specs.Meaning.{Locale, Means, IdentifierMeans, SpellsIdentifier, normal_identifier}
use Rattle.iloc_spec_grammar.specs.Tree.{Extension, Written, extension_pieces, spelling, IsWritten, meaning}
use Rattle.iloc_spec_grammar.specs.Values.{text, identifier_text, TextStep, IdentifierTextStep, Leads, LeadToOne}
use Rattle.iloc_spec_grammar.specs.TreeSteps.{Step, TreeIdentifierTextStep}
use Rattle.iloc_spec_grammar.specs.Reading.{written_of, extensions_in}
use Rattle.iloc_spec_grammar.proofs.PiecesLaws.{join-pieces}
use Rattle.iloc_spec_grammar.proofs.Orders.{all_reordered}
use Rattle.iloc_spec_grammar.proofs.General.{all_zip}
use Rattle.iloc_spec_grammar.proofs.Readings.{IsLong, AreLong, blocks-spelling-long, pieces-extension_of}
use Rattle.iloc_spec_grammar.proofs.FaultLaws.{AreGood, good_written, pieces-written_of}
use Rattle.iloc_spec_grammar.proofs.StepLaws.{identifier_step, written_step}
use Rattle.iloc_spec_grammar.proofs.StepSizes.{step_pieces, extension_passes}
use Rattle.iloc_spec_grammar.proofs.CaseLaws as tree
use Rattle.iloc_spec_grammar.proofs.IdentifierTexts.{identifier_text_step_means, identifier_text_step_length, lower-identifier_text}
use Rattle.iloc_spec_grammar.proofs.Canonical.{sort_identifier, identifier_order_step, canonical_identifier}
use Rattle.iloc_spec_grammar.proofs.Chains.{Steps, seven_steps}
use Rattle.iloc_spec_grammar.proofs.IdentifierLaws as laws
use Rattle.iloc_spec_grammar.proofs.BlockLaws.{one_by_blocks, read_by_blocks}
use Rattle.iloc_spec_grammar.proofs.SameMeaning.{good_blocks, means_by_blocks, tree_means, means_by_tree, one_meaning}
use Rattle.iloc_spec_grammar.proofs.SameText.{text_is}
use Rattle.iloc_spec_grammar.proofs.SameSteps.{tree_step, spelled_step, tree_identifier_step, identifier_step_by_tree}
use Rattle.iloc_spec_grammar.proofs.ReadingLaws.{front_long}

-- one step

pub text_step_means : (T : LanguageLengths) → AreLengths T → (t u : Text) (M : Locale) → TextStep T t u →
    Means T t M → Means T u M
text_step_means T table t u M s m =
    means_by_tree table u M (tree.text_step_means T table t u M (tree_step t u s) (tree_means t M m))

pub text_step_length : (T : LanguageLengths) (t u : Text) → TextStep T t u → length u ≤ length t
text_step_length T t u s = tree.text_step_length T t u (tree_step t u s)

-- any number of steps

pub chain_means : (T : LanguageLengths) → AreLengths T → (n : ℕ) (t u : Text) (M : Locale) →
    Leads (TextStep T) n t u → Means T t M → Means T u M
chain_means T table zero t u M c m = rw c at m
chain_means T table (suc n) t u M (inl e) m = rw e at m
chain_means T table (suc n) t u M (inr c) m =
    chain_means T table n c.0 u M c.2 (text_step_means T table t c.0 M c.1 m)

pub chain_length : (T : LanguageLengths) (n : ℕ) (t u : Text) → Leads (TextStep T) n t u → length u ≤ length t
chain_length T zero t u e = le_of_eq (ap length (sym e))
chain_length T (suc n) t u (inl e) = le_of_eq (ap length (sym e))
chain_length T (suc n) t u (inr c) = le_trans (chain_length T n c.0 u c.2) (text_step_length T t c.0 c.1)

-- blocks of a text have pieces of more than one byte, but for that of `x`

abbrev IsLongBlock : Block → Type 0
IsLongBlock b = (lower_singleton b == code_x) ≡ false → AllByRecursion IsLong b.1

blocks_long : (ps : List Text) → AllByRecursion IsLongBlock (blocks ps)
blocks_long [] = tt
blocks_long ([] ∷ ps) = blocks_long ps
blocks_long ((c ∷ []) ∷ ps) = grind (arith, cond_both, both_ways, front_long, blocks_long ps)
blocks_long ((c ∷ d ∷ p) ∷ ps) = blocks_long ps

tail_long : (ps : List Text) → AllByRecursion IsLongBlock (tail_blocks ps)
tail_long [] = tt
tail_long (p ∷ ps) = blocks_long ps

read_long : (bs : List Block) → AllByRecursion IsLongBlock bs → AreLong (extensions_in bs)
read_long [] h = tt
read_long (b ∷ bs) h = grind (arith, cases_Bool, pieces-extension_of, read_long bs h.1)

step_long : {v w : Written} → Step v w → AreLong v.extensions → AreLong w.extensions
step_long (Step.block_order r) h = all_reordered _ r h
step_long (Step.inside r {es = es} {fs = fs} s z) h =
    all_zip _ (λ (e : ℕ × Extension). AllByRecursion IsLong (extension_pieces e.1))
    (λ (e : ℕ × Extension). AllByRecursion IsLong (extension_pieces e.1))
    (λ e f k l. extension_passes is_one_byte k.1 l) es fs z h

-- steps of what a text spells lead from it, and one more to each text that differs in case
walk : (T : LanguageLengths) (n : ℕ) (t : Text) (v w : Written) → IsWritten T v → pieces t ≡ spelling v →
    AreLong v.extensions → Steps n v w → (u : Text) → lower (join (spelling w)) ≡ lower u →
    Leads (TextStep T) (suc n) t u
walk T zero t v w h e l s u k = grind (arith, join-pieces)
walk T (suc n) t v w h e l s u k =
    let after = (written_step T s.1 h).0 in
    let long = step_long s.1 l in
    inr (
      join (spelling s.0),
      search (spelled_step, blocks-spelling-long),
      walk T n (join (spelling s.0)) s.0 w after (step_pieces t e s.1) long s.2 u k,
    )

-- at most eight steps lead from each accepted text to the printed text of its meaning
pub chain_to_text : (T : LanguageLengths) (t : Text) (M : Locale) → Means T t M →
    Leads (TextStep T) 8 t (text M)
unfolding written_of
chain_to_text T t M m =
    let w = written_of (pieces t) in
    let id : SpellsIdentifier T (head (pieces t)) = (m.id.written, m.id.grammatical, m.id.spelled) in
    let good : AreGood T [] (tail_blocks (pieces t)) = good_blocks m.extensions.1 in
    let h = good_written T t id good in
    let s = seven_steps T w h in
    let same : meaning w ≡ M =
    search (one_by_blocks, read_by_blocks, means_by_blocks) in
    walk T 7 t w s.end h (pieces-written_of t) (search (read_long, tail_long)) s.steps (text M)
    (grind (arith, text_is))

-- no text of a meaning is shorter than the printed one
pub shortest : (T : LanguageLengths) (t : Text) (M : Locale) → Means T t M → length (text M) ≤ length t
shortest T t M m = chain_length T 8 t (text M) (chain_to_text T t M m)

-- to one text

pub texts_lead_to_one : (T : LanguageLengths) → AreLengths T → (t u : Text) (L M : Locale) → Means T t L →
    Means T u M → (L ≡ M) ↔ LeadToOne (TextStep T) 8 t u
texts_lead_to_one T table t u L M a b = (
  λ e. record {
    end = text L;
    first = chain_to_text T t L a;
    second = rw e (chain_to_text T u M b);
  },
  λ l. one_meaning table l.end L M (chain_means T table 8 t l.end L l.first a)
      (chain_means T table 8 u l.end M l.second b),
)

pub any_steps_join : (T : LanguageLengths) → AreLengths T → (t u : Text) (L M : Locale) → Means T t L →
    Means T u M → (L ≡ M) ↔ ((n : ℕ) × LeadToOne (TextStep T) n t u)
any_steps_join T table t u L M a b = (
  λ e. (8, (texts_lead_to_one T table t u L M a b).0 e),
  λ l. one_meaning table l.1.end L M (chain_means T table l.0 t l.1.end L l.1.first a)
      (chain_means T table l.0 u l.1.end M l.1.second b),
)

-- identifiers

pub identifier_step_means : (T : LanguageLengths) (t u : Text) (i : Identifier) → IdentifierTextStep T t u →
    IdentifierMeans T (pieces t) i → IdentifierMeans T (pieces u) i
identifier_step_means T t u i s m = identifier_text_step_means T t u i (tree_identifier_step t u s) m

pub identifier_step_length : (T : LanguageLengths) (t u : Text) → IdentifierTextStep T t u →
    length u ≡ length t
identifier_step_length T t u s = identifier_text_step_length T t u (tree_identifier_step t u s)

pub identifier_chain_means : (T : LanguageLengths) (n : ℕ) (t u : Text) (i : Identifier) →
    Leads (IdentifierTextStep T) n t u → IdentifierMeans T (pieces t) i → IdentifierMeans T (pieces u) i
identifier_chain_means T zero t u i c m = grind arith
identifier_chain_means T (suc n) t u i (inl e) m = grind arith
identifier_chain_means T (suc n) t u i (inr c) m =
    search (identifier_step_means, identifier_chain_means T n c.0 u)

pub identifier_chain_length : (T : LanguageLengths) (n : ℕ) (t u : Text) →
    Leads (IdentifierTextStep T) n t u →
    length u ≡ length t
identifier_chain_length T zero t u e = ap length (sym e)
identifier_chain_length T (suc n) t u (inl e) = ap length (sym e)
identifier_chain_length T (suc n) t u (inr c) =
    identifier_chain_length T n c.0 u c.2 ∙ identifier_step_length T t c.0 c.1

-- at most two steps lead to the normal text: the order of the variants, and the case of the letters
pub identifier_chain_to_text : (T : LanguageLengths) (t : Text) (i : Identifier) →
    IdentifierMeans T (pieces t) i →
    Leads (IdentifierTextStep T) 2 t (identifier_text i)
unfolding identifier_text
identifier_chain_to_text T t i m =
    let v = m.written in
    let w = sort_identifier v in
    let sorted : normal_identifier w ≡ i =
    (identifier_step (identifier_order_step v) m.grammatical).1 ∙ sym m.means in
    let case : lower (join (identifier_pieces w)) ≡ lower (identifier_text i) =
    cc (
      lower-identifier_text w,
      canonical_identifier v m.grammatical.different,
      sorted,
      lower-identifier_text i,
    ) in
    inr (
      join (identifier_pieces w),
      identifier_step_by_tree t (join (identifier_pieces w))
          (TreeIdentifierTextStep.variant_order m.grammatical m.spelled (identifier_order_step v)),
      grind arith,
    )

-- all texts of a meaning are as long as the normal one
pub length-identifier_means : (T : LanguageLengths) (t : Text) (i : Identifier) →
    IdentifierMeans T (pieces t) i →
    length (identifier_text i) ≡ length t
length-identifier_means T t i m = search (identifier_chain_length, identifier_chain_to_text)

pub identifiers_lead_to_one : (T : LanguageLengths) (t u : Text) (i j : Identifier) →
    IdentifierMeans T (pieces t) i → IdentifierMeans T (pieces u) j →
    (i ≡ j) ↔ LeadToOne (IdentifierTextStep T) 2 t u
identifiers_lead_to_one T t u i j m n = (
  λ e. record {
    end = identifier_text i;
    first = identifier_chain_to_text T t i m;
    second = rw e (identifier_chain_to_text T u j n);
  },
  λ l. laws.one_meaning (pieces l.end) i j (identifier_chain_means T 2 t l.end i l.first m)
      (identifier_chain_means T 2 u l.end j l.second n),
)

pub any_identifier_steps_join : (T : LanguageLengths) (t u : Text) (i j : Identifier) →
    IdentifierMeans T (pieces t) i → IdentifierMeans T (pieces u) j →
    (i ≡ j) ↔ ((n : ℕ) × LeadToOne (IdentifierTextStep T) n t u)
any_identifier_steps_join T t u i j a b = (
  λ e. (2, (identifiers_lead_to_one T t u i j a b).0 e),
  λ l. laws.one_meaning (pieces l.1.end) i j (identifier_chain_means T l.0 t l.1.end i l.1.first a)
      (identifier_chain_means T l.0 u l.1.end j l.1.second b),
)
