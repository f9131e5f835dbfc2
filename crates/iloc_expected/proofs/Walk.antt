-- What the reader of the pieces before a place says.
use Rattle.std.proofs.Common.{◌≡◌, ◌≢◌, ◌↔◌, ℕ, suc, ◌+◌, ◌≤◌, Bool, false, List, [], ◌∷◌, ◌++◌, length, min, take_all, take, Option, Some, None, option_map, refl, sym, ap, ◌∙◌, subst, append-nil, append_assoc, length-append, arith, inl, inr}
use Rattle.std.specs.List.{AllByRecursion}
use Rattle.std.proofs.lemmas.Bool.{cases_lt}
use Rattle.iloc_spec_grammar.specs.Syntax.{Text, pieces, join, dashes, is_word, IsHyphenFree, TransformKey}
use Rattle.iloc_spec_grammar.proofs.PiecesLaws.{pieces_hyphen_free, join-pieces, at_pieces}
use Rattle.iloc_pieces.proofs.CursorLemmas.{dashed, length_piece, length_rest}
use Rattle.iloc_pieces.specs.Cursor.{IsNextPiece, IsShortPiece, piece_left, pieces_left, bytes_left}
use Rattle.iloc_pieces.specs.declared.place.Cursor.{Cursor}
use Rattle.iloc_normalize.specs.declared.Mode.{Mode}
use Rattle.iloc_faults.specs.declared.state.Part.{Part}
use Rattle.iloc_faults.specs.declared.state.Part.TheVariants.{Start, Head, Transform, Source, FieldKey}
use Rattle.iloc_faults.specs.declared.state.Stage.{Stage}
use Rattle.iloc_faults.specs.Next.{Reached, started, plain, block_next, inside_next, word_next, after_script_next, after_region_next, next, run}
use Rattle.iloc_faults.specs.States.{AreVariantsRead, reached}
use Rattle.iloc_faults.specs.Places.{GoOn}
use Rattle.iloc_faults.proofs.Going.{run_append, goes_no_longer}
use Rattle.iloc_faults.proofs.Bits.{none_seen}
use Rattle.iloc_faults.proofs.VariantsLeft.{some_left}
use Rattle.iloc_spec_grammar.proofs.ReadBack.{all_append}
use Rattle.iloc_faults.proofs.OnePlace.{fewer}
use Rattle.iloc_expected.specs.declared.reading.Reading.{Reading}
use Rattle.iloc_expected.specs.Kinds.{Place, place_after}
use Rattle.iloc_expected.specs.Standing.{without_empty}
use Rattle.iloc_expected.specs.Readings.{IsReadAt, IsReading, IsPieceTaken, IsReadUpTo, IsReadOn, IsStopped, keyed_after}
use Rattle.iloc_expected.proofs.Places.{place_of_more}
use Rattle.iloc_expected.proofs.Following.{of_if, by_test, next_made}

-- ---- a piece adds one variant at most

of_bare : (o : Option Part) (seen : List ℕ) (r : Reached) → option_map (plain seen) o ≡ Some r →
    r.variants ≡ []
of_bare o seen r h = grind arith

abbrev MoreBy : List Text → List Text → Type 0
MoreBy vs ws = length ws ≤ suc (length vs)

none_more : (vs ws : List Text) → ws ≡ [] → MoreBy vs ws
none_more vs ws e = omega (arith, ap length e)

module _ (mode : Mode) (vs : List Text) (p : Text) (x : Stage × List Text) where
  variant_more : after_region_next mode vs p ≡ Some x → MoreBy vs x.1
  variant_more e = grind (arith, by_test, length-append)

  no_more_words : (stage : Stage) → Some (stage, vs) ≡ Some x → MoreBy vs x.1
  no_more_words stage f = grind arith

  region_more : after_script_next mode vs p ≡ Some x → MoreBy vs x.1
  region_more e = grind (arith, by_test, no_more_words, variant_more)

  word_more : (stage : Stage) → word_next mode stage vs p ≡ Some x → MoreBy vs x.1
  word_more stage h = grind (arith, by_test, no_more_words, region_more, variant_more)

more_words : (of : Stage → Part) (mode : Mode) (stage : Stage) (vs : List Text) (p : Text) (seen : List ℕ)
    (r : Reached) →
    option_map (λ (w : Stage × List Text). reached (of w.0) w.1 seen) (word_next mode stage vs p) ≡ Some r →
    MoreBy vs r.variants
more_words of mode stage vs p seen r e = grind (arith, word_more)

block_more : (mode : Mode) (part : Part) (vs : List Text) (seen : List ℕ) (c : ℕ) (r : Reached) →
    block_next mode part seen c ≡ Some r → MoreBy vs r.variants
block_more mode part vs seen c r h = grind (arith, of_if, none_more)

inside_more : (mode : Mode) (part : Part) (vs : List Text) (seen : List ℕ) (p : Text) (r : Reached) →
    inside_next mode part vs seen p ≡ Some r → MoreBy vs r.variants
inside_more mode (Head stage) vs seen p r e = more_words Head mode stage vs p seen r e
inside_more mode (Source stage) vs seen p r e = by_test (is_word TransformKey p) e
    (λ k f. none_more vs r.variants (of_bare (Some FieldKey) seen r f))
    (λ k f. more_words Source mode stage vs p seen r f)
inside_more mode Transform vs seen p r e = grind (arith, by_test, none_more, of_bare)
inside_more mode _ vs seen p r e = grind (arith, none_more, of_bare)

next_more : (mode : Mode) (part : Part) (vs : List Text) (seen : List ℕ) (p : Text) (r : Reached) →
    next mode (reached part vs seen) p ≡ Some r → MoreBy vs r.variants
next_more mode part vs seen p r e = grind (arith, by_test, block_more, inside_more)

-- ---- the walk

-- a piece has no hyphens
pub piece_free : (at : Cursor) → IsHyphenFree (piece_left at)
piece_free at = grind (arith, some_left, pieces_hyphen_free)

pub read_starts : (mode : Mode) (at : Cursor) →
    IsReadUpTo mode [] at
    (record { state = record { part = Start; variants = None; seen = 0 }; keyed = false })
read_starts mode at = grind (arith, none_seen)

module _ {mode : Mode} {ps : List Text} {at : Cursor} {r : Reading} (h : IsReadUpTo mode ps at r) where
  abbrev now : Reached
  now = reached r.state.part h.variants h.seen

  pub ran_one : (p : Text) (o : Option Reached) → next mode now p ≡ o →
      run mode (Some started) (ps ++ (p ∷ [])) ≡ run mode o []
  ran_one p o e = grind (arith, run_append)

  -- one piece more
  pub read_more : {m : Cursor} (q : Reading) →
      IsPieceTaken mode r.keyed r.state.part h.variants h.seen at (Some q) → IsNextPiece at m →
      IsReadUpTo mode (ps ++ (piece_left at ∷ [])) m q
  read_more {m = m} q (x, k) n = record {
    variants = x.0;
    seen = x.1;
    free = all_append IsHyphenFree ps (piece_left at ∷ []) h.free (piece_free at, tt);
    ran = ran_one (piece_left at) (Some (reached q.state.part x.0 x.1)) x.2;
    read = x.4 m n;
    few = let l = next_more mode r.state.part h.variants h.seen (piece_left at)
        (reached q.state.part x.0 x.1) x.2
        in let f = h.few in omega (arith, l, f, length-append ps (piece_left at ∷ []));
    place = subst (λ (b : Bool). IsReadAt q.state.part b (place_after (ps ++ (piece_left at ∷ [])))) (sym k)
        (subst (λ (w : Place). IsReadAt q.state.part (keyed_after r.keyed q.state.part (piece_left at)) w)
        (sym (place_of_more ps (piece_left at)))
        (next_made r.keyed (place_after ps) (piece_left at) mode r.state.part h.variants h.seen
        (reached q.state.part x.0 x.1) h.place x.2));
  }

-- ---- the loop

nothing : join ([] ∷ []) ≡ []
unfolding join
nothing = refl

module _ {mode : Mode} {ps : List Text} {from at : Cursor} {r : Reading} (h : IsReadOn mode ps from at r)
  where
    pub loop_on : {m : Cursor} (q : Reading) →
        IsPieceTaken mode r.keyed r.state.part h.up_to.variants h.up_to.seen at (Some q) → IsNextPiece at m →
        IsReadOn mode ps from m q
    loop_on {m = m} q x n = record {
      done = h.done ++ (piece_left at ∷ []);
      cut = grind (arith, append_assoc);
      up_to = subst (λ (qs : List Text). IsReadUpTo mode qs m q) (append_assoc ps h.done (piece_left at ∷ []))
          (read_more h.up_to q x n);
    }

    pub loop_stops : at.piece_length ≢ at.remaining →
        next mode (reached r.state.part h.up_to.variants h.up_to.seen) (piece_left at) ≡ None →
        IsStopped mode ps from
    loop_stops n e = let rest = some_left at in record {
      done = h.done;
      piece = piece_left at;
      rest = rest.0;
      cut = h.cut ∙ ap (λ qs. h.done ++ qs) rest.1;
      counts = grind (arith, join-pieces, nothing, length_piece, length_rest);
      stops = ran_one h.up_to (piece_left at) None e;
    }

pub loop_starts : (mode : Mode) (ps : List Text) (from : Cursor) (r : Reading) → IsReadUpTo mode ps from r →
    IsReadOn mode ps from from r
loop_starts mode ps from r h = grind (arith, append-nil)

-- ---- what the reading stands for

pub front_free : (xs ys : List Text) → AllByRecursion IsHyphenFree (xs ++ ys) → AllByRecursion IsHyphenFree xs
front_free [] ys h = tt
front_free (x ∷ xs) ys h = (h.0, front_free xs ys h.1)

none_are : (mode : Mode) (o : Option ℕ) (at : Cursor) (vs : List Text) → AreVariantsRead mode o at vs →
    (o ≡ None) ↔ (vs ≡ [])
none_are mode o at vs h = grind arith

pub reading_is : {mode : Mode} {ps : List Text} {at : Cursor} {r : Reading} → IsReadUpTo mode ps at r →
    IsReading mode ps r
reading_is h = grind (arith, none_are)

-- ---- the last piece counts if it is not empty

pub without_end : (ps : List Text) → without_empty (ps ++ ([] ∷ [])) ≡ ps
without_end [] = refl
without_end ([] ∷ []) = refl
without_end ([] ∷ q ∷ ps) = grind (arith, without_end (q ∷ ps))
without_end ((c ∷ p) ∷ ps) = grind (arith, without_end ps)

-- a piece that is not empty, or that is not the last, counts
pub with_piece : (ps : List Text) (p : Text) (rest : List Text) → p ≢ [] →
    without_empty (ps ++ (p ∷ rest)) ≡ ps ++ (p ∷ without_empty rest)
with_piece [] [] rest n = absurd (n refl)
with_piece [] (c ∷ p) rest n = refl
with_piece ([] ∷ []) p rest n = grind arith
with_piece ([] ∷ q ∷ ps) p rest n = grind (arith, with_piece (q ∷ ps) p rest n)
with_piece ((c ∷ q) ∷ ps) p rest n = grind (arith, with_piece ps p rest n)

pub with_more : (ps : List Text) (p q : Text) (rest : List Text) →
    without_empty (ps ++ (p ∷ q ∷ rest)) ≡ ps ++ (p ∷ without_empty (q ∷ rest))
with_more [] [] q rest = refl
with_more [] (c ∷ p) q rest = refl
with_more ([] ∷ []) p q rest = grind arith
with_more ([] ∷ r ∷ ps) p q rest = grind (arith, with_more (r ∷ ps) p q rest)
with_more ((c ∷ r) ∷ ps) p q rest = grind (arith, with_more ps p q rest)

-- pieces do not go on if fewer of them do not
pub no_more : (mode : Mode) (ps : List Text) (p : Text) (rest qs : List Text) → qs ≡ ps ++ (p ∷ rest) →
    run mode (Some started) (ps ++ (p ∷ [])) ≡ None → ¬ (GoOn mode qs)
no_more mode ps p rest qs e stops g = goes_no_longer mode (ps ++ (p ∷ [])) stops
    (fewer (ps ++ (p ∷ [])) rest (subst (GoOn mode) (e ∙ sym (append_assoc ps (p ∷ []) rest)) g))

pub with_counts : (ps : List Text) (p : Text) (rest : List Text) → (p ≡ [] → rest ≢ []) →
    without_empty (ps ++ (p ∷ rest)) ≡ ps ++ (p ∷ without_empty rest)
with_counts ps [] [] n = absurd (n refl refl)
with_counts ps [] (q ∷ rest) n = with_more ps [] q rest
with_counts ps (c ∷ p) rest n = with_piece ps (c ∷ p) rest (λ e. cc)

pub stopped_is : (mode : Mode) (t : Text) (from : Cursor) → pieces_left from ≡ pieces t →
    IsStopped mode [] from → ¬ (GoOn mode (without_empty (pieces t)))
stopped_is mode t from all h = no_more mode h.done h.piece (without_empty h.rest) _
    (ap without_empty (sym all ∙ h.cut) ∙ with_counts h.done h.piece h.rest h.counts) h.stops

-- ---- how many pieces

few_dashes : (p : Text) (ps : List Text) → length (without_empty (p ∷ ps)) + 1 ≤ length (dashes (p ∷ ps))
few_dashes [] [] = omega arith
few_dashes (c ∷ p) [] = grind (arith, length-append)
few_dashes [] (q ∷ ps) = let h = few_dashes q ps in omega arith
few_dashes (c ∷ p) (q ∷ ps) = grind (arith, length-append, few_dashes q ps)

pub few_pieces : (t : Text) → length (without_empty (pieces t)) ≤ length t
few_pieces t = at_pieces (λ ps. length (dashes ps) ≡ length t + 1 → length (without_empty ps) ≤ length t)
    (λ p ps e. let h = few_dashes p ps in omega arith) t (ap length (dashed t) ∙ add-one)
  where
    add-one : suc (length t) ≡ length t + 1
    add-one = omega arith

-- a text cut at the place, or not at all
pub same_cut : (t : Text) (place n : ℕ) → n ≡ min (length t) place → take n t ≡ take place t
same_cut t place n e = grind (arith, cases_lt, take_all)
