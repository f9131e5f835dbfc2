-- A reader reads the whole of a block exactly where the block means what is read.
use Rattle.std.proofs.Common.{◌≡◌, ◌≢◌, ◌⊎◌, inl, inr, ◌↔◌, ℕ, List, [], ◌∷◌, refl, sym, ◌∙◌, arith, Option, Some, None, IfSome}
use Rattle.std.specs.List.{AllByRecursion}
use Rattle.std.specs.Ordering.{nat_cmp}
use Rattle.std.specs.FinMap.{find}
use Rattle.std.proofs.lemmas.Bool.{cond_both, eqb-true}
use Rattle.iloc_spec_grammar.specs.Syntax.{LanguageLengths, Block, code_x, code_u, code_t, Text, AreLengths, Unicode, Transform, kept, lower_singleton, front, blocks, tail_blocks}
use Rattle.iloc_spec_grammar.specs.Meaning.{Locale, Extensions, Means, no_unicode, no_transform, Fault, other_blocks}
use Rattle.iloc_spec_grammar.specs.Tree.{by_singleton}
use Rattle.iloc_spec_grammar.specs.ByBlocks.{UnicodeMeans, TransformMeans, OtherMeans, Rules, grammar_rules, PartIs, BlocksGive, MeansBy}
use Rattle.iloc_spec_grammar.specs.Reading.{from_block}
use Rattle.iloc_spec_grammar.proofs.ValuesLaws.{all_weaker, all_both}
use Rattle.iloc_spec_grammar.proofs.SameMeaning.{means_by_blocks, blocks_mean}
use Rattle.iloc_spec_parts.specs.Readers.{AgreesWithBlocks}
use Rattle.iloc_spec_parts.specs.Fronts.{UnicodeRead, TransformRead, OtherRead}
use Rattle.iloc_spec_parts.proofs.FrontLaws.{unicode_agrees, other_agrees}
use Rattle.iloc_spec_parts.proofs.TransformLaws.{transform_agrees}
use Rattle.iloc_spec_parts.specs.ByReaders.{reading_rules, MeansByReaders}
use Rattle.iloc_spec_grammar.proofs.Singletons.{no_x, tied}

-- what follows the singleton of a block other than that of `x` has no piece of one byte

pub record IsClosed (ps : List Text) : Type 0 where
  pub whole : front ps ≡ ps
  pub ended : from_block ps ≡ []

closed_front : (ps : List Text) → IsClosed (front ps)
closed_front [] = record { whole = refl; ended = refl }
closed_front (p ∷ ps) = grind (arith, cond_both, closed_front ps)

abbrev IsXOrClosed : Block → Type 0
IsXOrClosed b = (lower_singleton b ≡ code_x) ⊎ IsClosed b.1

blocks_closed : (ps : List Text) → AllByRecursion IsXOrClosed (blocks ps)
blocks_closed [] = tt
blocks_closed ([] ∷ ps) = blocks_closed ps
blocks_closed ((c ∷ []) ∷ ps) = grind (arith, cond_both, eqb-true, closed_front, blocks_closed ps)
blocks_closed ((c ∷ d ∷ p) ∷ ps) = blocks_closed ps

tail_closed : (ps : List Text) → AllByRecursion IsXOrClosed (tail_blocks ps)
tail_closed [] = tt
tail_closed (p ∷ ps) = blocks_closed ps

closed_of : (q : ℕ) → q ≢ code_x → (c : ℕ) (ps : List Text) → c ≡ q → (c ≡ code_x) ⊎ IsClosed ps → IsClosed ps
closed_of q n c ps e (inl x) = absurd (n (sym e ∙ x))
closed_of q n c ps e (inr h) = h

found_closed : (q : ℕ) → q ≢ code_x → (bs : List Block) → AllByRecursion IsXOrClosed bs →
    IfSome (find nat_cmp q (by_singleton bs)) IsClosed
found_closed q n [] h = tt
found_closed q n (b ∷ bs) h = grind (arith, cond_both, closed_of, tied, found_closed q n bs h.1)

others_closed : (bs : List Block) → AllByRecursion IsXOrClosed bs →
    AllByRecursion (λ b. IsClosed b.1) (other_blocks bs)
others_closed [] h = tt
others_closed (b ∷ bs) h = grind (arith, cond_both, closed_of, no_x, others_closed bs h.1)

-- a reader that agrees with the rule of its blocks

module _ {X : Type 0} (R : List Text → X → List Text → Type 0) (F : List Text → Fault → Type 0)
    (B : List Text → X → Type 0) (a : AgreesWithBlocks R F B) (ps : List Text) (v : X)
    (c : IsClosed ps) where
  pub block_read : B ps v → R ps v []
  block_read h = grind arith

  pub read_block : R ps v [] → B ps v
  read_block h = grind arith

-- rules by which the blocks of another give the same

pub record Carries (R S : Rules) : Type 0 where
  pub unicode : (ps : List Text) (v : Unicode) → IsClosed ps → R.unicode ps v → S.unicode ps v
  pub transform : (ps : List Text) (m : Transform) → IsClosed ps → R.transform ps m → S.transform ps m
  pub private : (ps ws : List Text) → R.private ps ws → S.private ps ws
  pub other : (ps ws : List Text) → IsClosed ps → R.other ps ws → S.other ps ws

part_carried : {X : Type 0} (o : Option (List Text)) (C : List Text → Type 0)
    (R S : List Text → X → Type 0) →
    ((ps : List Text) (v : X) → C ps → R ps v → S ps v) → (empty v : X) → IfSome o C →
    PartIs R empty o v → PartIs S empty o v
part_carried None C R S f empty v h m = m
part_carried (Some ps) C R S f empty v h m = f ps v h m

any_some : {X : Type 0} (o : Option X) → IfSome o (λ _. Unit {0})
any_some None = tt
any_some (Some x) = tt

carried : {R S : Rules} → Carries R S → (bs : List Block) (e : Extensions) →
    AllByRecursion IsXOrClosed bs → BlocksGive R bs e → BlocksGive S bs e
carried {R = R} {S = S} c bs e closed m = record {
  letters = m.letters;
  different = m.different;
  unicode = part_carried _ IsClosed R.unicode S.unicode c.unicode no_unicode e.unicode
      (found_closed code_u (λ e. absurd (omega arith)) bs closed) m.unicode;
  transform = part_carried _ IsClosed R.transform S.transform c.transform no_transform e.transform
      (found_closed code_t (λ e. absurd (omega arith)) bs closed) m.transform;
  private = grind (arith, part_carried, any_some);
  each_other = all_weaker (λ b. IsClosed b.1 × R.other b.1 (kept b.1)) (λ b. S.other b.1 (kept b.1))
      (λ b p. c.other b.1 (kept b.1) p.0 p.1) _
      (all_both (λ b. IsClosed b.1) (λ b. R.other b.1 (kept b.1)) _ (others_closed bs closed) m.each_other);
  others = m.others;
}

module _ (T : LanguageLengths) (table : AreLengths T) where
  read_by_grammar : Carries (grammar_rules T) (reading_rules T)
  read_by_grammar = record {
    unicode = λ ps v c. block_read UnicodeRead _ UnicodeMeans unicode_agrees ps v c;
    transform = λ ps m c. block_read (TransformRead T) _ (TransformMeans T) (transform_agrees T table) ps m c;
    private = grind arith;
    other = λ ps ws c. block_read OtherRead _ OtherMeans other_agrees ps ws c;
  }

  grammar_by_reading : Carries (reading_rules T) (grammar_rules T)
  grammar_by_reading = record {
    unicode = grind (arith, read_block, unicode_agrees);
    transform = λ ps m c. read_block (TransformRead T) _ (TransformMeans T) (transform_agrees T table) ps m c;
    private = grind arith;
    other = λ ps ws c. read_block OtherRead _ OtherMeans other_agrees ps ws c;
  }

  all_carried : {R S : Rules} → Carries R S → (t : Text) (M : Locale) → MeansBy R T t M → MeansBy S T t M
  all_carried c t M m = search (carried, tail_closed)

  pub by_readers : (t : Text) (M : Locale) → Means T t M ↔ MeansByReaders T t M
  by_readers t M = search (all_carried, read_by_grammar, means_by_blocks, blocks_mean, grammar_by_reading)
