-- One round of the reader of blocks: from the byte that begins a block to the next block, or to a refusal.
use Rattle.std.proofs.lemmas.Bool.{false_from_ne_true}
use Rattle.std.proofs.Common.{◌≡◌, ℕ, ◌≤◌, Bool, true, false, ◌==◌, List, [], ◌∷◌, length, map, refl, sym, ap, ◌∙◌, subst, arith}
use Rattle.std.specs.List.{AllByRecursion, list_any}
use Rattle.std.specs.Char.{is_ascii_alphanumeric, to_ascii_lowercase}
use Rattle.std.specs.Ordering.{nat_cmp, eq_by_cmp}
use Rattle.std.specs.FinMap.{put}
use Rattle.std.proofs.lemmas.Bool.Decides.{nat_tests}
use Rattle.iloc_spec_grammar.specs.Syntax.{code_x, code_u, code_t, Text, AreLengths, Unicode, Transform, IsOther, kept, AllDifferent, lower_singleton, is_other_singleton, front, blocks, IsPrivate, is_word, PrivateSubtag}
use Rattle.iloc_spec_grammar.specs.Tree.{IsBlock, TreeBlockFault, no_singleton, duplicated, repeats_variant, breaks_rule, FirstBadBlock, here, later}
use Rattle.iloc_spec_grammar.specs.Meaning.{Extensions, Fault, InvalidSubtag, InvalidExtension, DuplicatedExtension, HasBlockFault, RepeatsVariant}
use Rattle.iloc_spec_grammar.specs.ByBlocks.{UnicodeMeans, TransformMeans, PrivateMeans, OtherMeans, grammar_rules, BlocksGive}
use Rattle.iloc_spec_grammar.specs.Reading.{starts_block, from_block, passing}
use Rattle.iloc_spec_grammar.proofs.ReadingLaws.{front-from_block, from_block_starts}
use Rattle.iloc_spec_grammar.proofs.FaultLaws.{AreGood}
use Rattle.iloc_spec_grammar.proofs.SameMeaning.{good_blocks, mean_give, give_mean}
use Rattle.iloc_spec_grammar.proofs.SameFaults.{fault_of_first}
use Rattle.iloc_spec_parts.proofs.BlockRules.{unicode_rule, transform_rule, private_rule, other_rule}
use Rattle.iloc_spec_parts.proofs.ShortFronts as long
use Rattle.iloc_spec_parts.proofs.ShortFronts.{MeetsLongBlock, met_is_reached, short_unicode_front, short_transform_front}
use Rattle.iloc_spec_parts.specs.Inline.{IsShortUnicode, IsShortTransform, IsShortOther, IsShortBlock, ReachesLongBlock}
use Rattle.iloc_extensions.specs.Blocks.{BlocksDone, BlockAt, onto, is_read}
use Rattle.iloc_extensions.proofs.ArmLaws.{read_is_known}
use Rattle.iloc_extensions.proofs.StepLaws.{unicode_added, transform_added, private_added, other_added}
use Rattle.iloc_spec_grammar.proofs.Singletons.{lower_letter, two_more, no_t}
use Rattle.iloc_normalize.proofs.FrontAnswers.{first_block}

-- blocks of pieces

pub blocks-from_block : (ps : List Text) → blocks (from_block ps) ≡ blocks ps
blocks-from_block [] = refl
blocks-from_block ([] ∷ ps) = blocks-from_block ps
blocks-from_block ((c ∷ []) ∷ ps) = refl
blocks-from_block ((c ∷ d ∷ p) ∷ ps) = grind (arith, two_more, blocks-from_block ps)

block_until : (c : ℕ) (ps : List Text) → (to_ascii_lowercase c == code_x) ≡ false →
    blocks ((c ∷ []) ∷ ps) ≡ (c, front ps) ∷ blocks (from_block ps)
block_until c ps e = grind (arith, blocks-from_block)

block_of_x : (c : ℕ) (ps : List Text) → to_ascii_lowercase c ≡ code_x → blocks ((c ∷ []) ∷ ps) ≡ (c, ps) ∷ []
block_of_x c ps e = grind arith

other_than : (n k : ℕ) → n ≡ k → (k ≡ code_x → ⊥) → (n == code_x) ≡ false
other_than n k e d = grind (arith, nat_tests)

no_x : (n : ℕ) → is_other_singleton n ≡ true → (n == code_x) ≡ false
no_x n h = grind (arith, nat_tests)

apart : (n k m : ℕ) → n ≡ k → n ≡ m → (k == m) ≡ false → ⊥
apart n k m e f h = grind (arith, nat_tests)

-- the blocks that were read, one after the other

-- what holds from here on, after the singletons of the blocks that were read, holds of all
after : {T : ℕ → Bool} (P : Text → List (ℕ × List Text) → Type 0)
    → ((seen : List ℕ) (b : ℕ × List Text) (bs : List (ℕ × List Text)) →
    is_ascii_alphanumeric b.0 ≡ true → list_any (eq_by_cmp nat_cmp (lower_singleton b)) seen ≡ false →
    IsBlock T b → P (lower_singleton b ∷ seen) bs → P seen (b ∷ bs))
    → (ds bs : List (ℕ × List Text)) → AllByRecursion (λ b. is_ascii_alphanumeric b.0 ≡ true) ds →
    AllDifferent nat_cmp (map (λ b. lower_singleton b) ds) → AllByRecursion (IsBlock T) ds →
    P (map (λ b. lower_singleton b) ds) bs → P [] (onto ds bs)
after P step [] bs l n r h = h
after P step (d ∷ ds) bs l n r h = after P step ds (d ∷ bs) l.1 n.1 r.1
    (step (map (λ b. lower_singleton b) ds) d bs l.0 (false_from_ne_true _ n.0) r.0 h)

-- good blocks follow the rules of their singletons
rules_of : (T : ℕ → Bool) (seen : List ℕ) (ds : List (ℕ × List Text)) → AreGood T seen ds →
    AllByRecursion (IsBlock T) ds
rules_of T seen [] g = tt
rules_of T seen (d ∷ ds) g = (g.0.2, rules_of T (lower_singleton d ∷ seen) ds g.1)

module _ {T : ℕ → Bool} {start : List Text} {c : ℕ} {ps : List Text} {M : Extensions} where
  gives : (d : BlocksDone T start ((c ∷ []) ∷ ps) M) → BlocksGive (grammar_rules T) d.done M
  gives d = mean_give d.means

  rules : (d : BlocksDone T start ((c ∷ []) ∷ ps) M) → AllByRecursion (IsBlock T) d.done
  rules d = rules_of T [] d.done (good_blocks d.means.1)

  bad_here : (qs : List Text) (bs : List (ℕ × List Text)) → blocks ((c ∷ []) ∷ ps) ≡ (c, qs) ∷ bs →
      (d : BlocksDone T start ((c ∷ []) ∷ ps) M) → (f : Fault) →
      TreeBlockFault T (map (λ b. lower_singleton b) d.done) (c, qs) f → HasBlockFault T (blocks start) f
  bad_here qs bs e d f h =
      fault_of_first (subst (λ l. FirstBadBlock T [] l f) (sym (d.together ∙ ap (onto d.done) e))
      (after (λ seen l. FirstBadBlock T seen l f) (λ seen b l k n r x. later k n r x) d.done ((c, qs) ∷ bs)
      (gives d).letters (gives d).different (rules d) (here h)))

  -- the singleton is no letter or digit
  pub no_letter : BlocksDone T start ((c ∷ []) ∷ ps) M → is_ascii_alphanumeric c ≡ false →
      HasBlockFault T (blocks start) InvalidExtension
  no_letter d h = let b = first_block c ps in bad_here b.0 b.1 b.2 d InvalidExtension (no_singleton h)

  -- it was met before
  pub met_before : BlocksDone T start ((c ∷ []) ∷ ps) M → is_ascii_alphanumeric c ≡ true →
      is_read M (to_ascii_lowercase c) ≡ true → HasBlockFault T (blocks start) DuplicatedExtension
  met_before d h r = let b = first_block c ps in
      bad_here b.0 b.1 b.2 d DuplicatedExtension
      (duplicated h (sym (read_is_known T d.done M (to_ascii_lowercase c) (gives d) (lower_letter c h)) ∙ r))

  module _ (a : BlockAt T start c ps M) where
    fresh : list_any (eq_by_cmp nat_cmp (to_ascii_lowercase c)) (map (λ b. lower_singleton b) a.before.done)
        ≡ false
    fresh = sym
        (read_is_known T a.before.done M (to_ascii_lowercase c) (gives a.before) (lower_letter c a.letter))
        ∙ a.new

    good : (qs rest : List Text) (N : Extensions) → blocks ((c ∷ []) ∷ ps) ≡ (c, qs) ∷ blocks rest →
        starts_block rest ≡ true → BlocksGive (grammar_rules T) ((c, qs) ∷ a.before.done) N →
        BlocksDone T start rest N
    good qs rest N e s m = record {
      done = (c, qs) ∷ a.before.done;
      together = a.before.together ∙ ap (onto a.before.done) e;
      begins = s;
      means = give_mean m;
    }

    breaks : (qs : List Text) (bs : List (ℕ × List Text)) → blocks ((c ∷ []) ∷ ps) ≡ (c, qs) ∷ bs →
        ¬ ((to_ascii_lowercase c ≡ code_t) × RepeatsVariant T qs) → ¬ (IsBlock T (c, qs)) →
        HasBlockFault T (blocks start) InvalidExtension
    breaks qs bs e v r = bad_here qs bs e a.before InvalidExtension (breaks_rule a.letter fresh v r)

    long_here : (qs : List Text) (bs : List (ℕ × List Text)) → blocks ((c ∷ []) ∷ ps) ≡ (c, qs) ∷ bs →
        ¬ (IsShortBlock T (c, qs)) → ReachesLongBlock T (blocks start)
    long_here qs bs e n =
        met_is_reached (subst (MeetsLongBlock T []) (sym (a.before.together ∙ ap (onto a.before.done) e))
        (after (MeetsLongBlock T) (λ seen b l k m r x. long.later k m r x) a.before.done ((c, qs) ∷ bs)
        (gives a.before).letters (gives a.before).different (rules a.before) (long.here a.letter fresh n)))

    -- after `u`

    pub unicode_done : to_ascii_lowercase c ≡ code_u → (v : Unicode) → UnicodeMeans (front ps) v →
        BlocksDone T start (from_block ps) (record M { unicode = v })
    unicode_done e v m = good (front ps) (from_block ps) (record M { unicode = v })
        (block_until c ps (other_than (to_ascii_lowercase c) code_u e (λ d. absurd (omega (arith, d)))))
        (from_block_starts ps) (unicode_added (c, front ps) (gives a.before) a.letter fresh e v m)

    pub unicode_bad : to_ascii_lowercase c ≡ code_u → ((v : Unicode) → ¬ (UnicodeMeans (front ps) v)) →
        HasBlockFault T (blocks start) InvalidExtension
    unicode_bad e n = breaks (front ps) (blocks (from_block ps))
        (block_until c ps (other_than (to_ascii_lowercase c) code_u e (λ d. absurd (omega (arith, d)))))
        (λ h. apart (to_ascii_lowercase c) code_u code_t e h.0 refl)
        (λ r. let s = (unicode_rule T (c, front ps) e).0 r in n s.0 s.1)

    pub unicode_long : to_ascii_lowercase c ≡ code_u → ¬ (IsShortUnicode ps) →
        ReachesLongBlock T (blocks start)
    unicode_long e n = long_here (front ps) (blocks (from_block ps))
        (block_until c ps (other_than (to_ascii_lowercase c) code_u e (λ d. absurd (omega (arith, d)))))
        (λ s. n (subst IsShortUnicode (front-from_block ps)
        ((short_unicode_front (front ps) (from_block ps) (from_block_starts ps)).0 (s.unicode e))))

    -- after `t`

    pub transform_done : to_ascii_lowercase c ≡ code_t → (v : Transform) → TransformMeans T (front ps) v →
        BlocksDone T start (from_block ps) (record M { transform = v })
    transform_done e v m = good (front ps) (from_block ps) (record M { transform = v })
        (block_until c ps (other_than (to_ascii_lowercase c) code_t e (λ d. absurd (omega (arith, d)))))
        (from_block_starts ps) (transform_added (c, front ps) (gives a.before) a.letter fresh e v m)

    pub transform_repeats : to_ascii_lowercase c ≡ code_t → RepeatsVariant T (front ps) →
        HasBlockFault T (blocks start) InvalidSubtag
    transform_repeats e r = bad_here (front ps) (blocks (from_block ps))
        (block_until c ps (other_than (to_ascii_lowercase c) code_t e (λ d. absurd (omega (arith, d)))))
        a.before
        InvalidSubtag (repeats_variant a.letter fresh e r)

    pub transform_bad : to_ascii_lowercase c ≡ code_t → ¬ (RepeatsVariant T (front ps)) →
        ((v : Transform) → ¬ (TransformMeans T (front ps) v)) →
        HasBlockFault T (blocks start) InvalidExtension
    transform_bad e v n = breaks (front ps) (blocks (from_block ps))
        (block_until c ps (other_than (to_ascii_lowercase c) code_t e (λ d. absurd (omega (arith, d)))))
        (λ h. v h.1) (λ r. let s = (transform_rule T (c, front ps) e).0 r in n s.0 s.1)

    pub transform_long : AreLengths T → to_ascii_lowercase c ≡ code_t → ¬ (IsShortTransform T ps) →
        ReachesLongBlock T (blocks start)
    transform_long table e n = long_here (front ps) (blocks (from_block ps))
        (block_until c ps (other_than (to_ascii_lowercase c) code_t e (λ d. absurd (omega (arith, d)))))
        (λ s. n (subst (IsShortTransform T) (front-from_block ps)
        ((short_transform_front table (front ps) (from_block ps) (from_block_starts ps)).0 (s.transform e))))

    -- after another singleton

    pub other_done : is_other_singleton (to_ascii_lowercase c) ≡ true →
        OtherMeans (front ps) (kept (front ps)) →
        BlocksDone T start (from_block ps)
        (record M { others = put nat_cmp (to_ascii_lowercase c) (kept (front ps)) M.others })
    other_done o m = good (front ps) (from_block ps)
        (record M { others = put nat_cmp (to_ascii_lowercase c) (kept (front ps)) M.others })
        (block_until c ps (no_x (to_ascii_lowercase c) o)) (from_block_starts ps)
        (other_added (c, front ps) (gives a.before) a.letter fresh o m)

    pub other_bad : is_other_singleton (to_ascii_lowercase c) ≡ true → ¬ (IsOther (front ps)) →
        HasBlockFault T (blocks start) InvalidExtension
    other_bad o n =
        breaks (front ps) (blocks (from_block ps)) (block_until c ps (no_x (to_ascii_lowercase c) o))
        (λ h. no_t (to_ascii_lowercase c) h.0 o) (λ r. n ((other_rule T (c, front ps) o).0 r))

    pub other_long : is_other_singleton (to_ascii_lowercase c) ≡ true → ¬ (IsShortOther (front ps)) →
        ReachesLongBlock T (blocks start)
    other_long o n = long_here (front ps) (blocks (from_block ps))
        (block_until c ps (no_x (to_ascii_lowercase c) o)) (λ s. n (s.other o))

    -- after `x`

    pub private_done : to_ascii_lowercase c ≡ code_x → (v : List Text) → PrivateMeans ps v →
        BlocksDone T start [] (record M { private = v })
    private_done e v m = good ps [] (record M { private = v }) (block_of_x c ps e) refl
        (private_added (c, ps) (gives a.before) a.letter fresh e v m)

    pub private_bad : to_ascii_lowercase c ≡ code_x → ¬ (IsPrivate ps) →
        HasBlockFault T (blocks start) InvalidExtension
    private_bad e n =
        breaks ps [] (block_of_x c ps e) (λ h. apart (to_ascii_lowercase c) code_x code_t e h.0 refl)
        (λ r. n ((private_rule T (c, ps) e).0 r))

    pub private_long : to_ascii_lowercase c ≡ code_x → ¬ (length (passing (is_word PrivateSubtag) ps) ≤ 4) →
        ReachesLongBlock T (blocks start)
    private_long e n = long_here ps [] (block_of_x c ps e) (λ s. n (s.private e))
