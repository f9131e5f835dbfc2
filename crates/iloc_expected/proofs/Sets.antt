-- The kinds that may come after what was read are those that may stand there.
use Rattle.std.proofs.Common.{◌≡◌, ◌≢◌, ℕ, ◌<◌, ◌^◌, Bool, true, false, not, ◌&&◌, ◌||◌, ◌==◌, List, [], ◌∷◌, ◌++◌, length, Option, Some, None, is_some, is_none, refl, sym, ap, ◌∙◌, subst, true≢false, append-nil, arith}
use Rattle.std.specs.List.{AllByRecursion}
use Rattle.std.specs.Int.{bit_at}
use Rattle.iloc_spec_grammar.specs.Syntax.{Text, pieces, join, IsHyphenFree}
use Rattle.iloc_spec_grammar.proofs.PiecesLaws.{pieces-join}
use Rattle.iloc_spec_grammar.proofs.ReadBack.{all_append}
use Rattle.iloc_normalize.specs.declared.Mode.{Mode}
use Rattle.iloc_faults.specs.declared.state.Part.{Part}
use Rattle.iloc_faults.specs.Next.{Reached, started, may_end, next, outcome, run}
use Rattle.iloc_faults.specs.States.{reached}
use Rattle.iloc_faults.specs.Places.{GoOn}
use Rattle.iloc_faults.proofs.Answers.{accepted_is}
use Rattle.iloc_faults.proofs.DataSteps.{fine}
use Rattle.iloc_faults.proofs.OnePlace.{fewer}
use Rattle.iloc_faults.proofs.Going.{run_append, verdict_run, goes_on, goes_no_longer}
use Rattle.iloc_expected.specs.declared.kinds.Expected.{Expected}
use Rattle.iloc_expected.specs.declared.kinds.PieceKind.{PieceKind}
use Rattle.iloc_expected.specs.declared.kinds.PieceKind.TheVariants as kinds
use Rattle.iloc_expected.specs.declared.reading.Reading.{Reading}
use Rattle.iloc_expected.specs.Kinds.{has, kind_bit, place_after}
use Rattle.iloc_expected.specs.Standing.{MayEnd, HasNext, MayStand, AreExpected}
use Rattle.iloc_expected.specs.Readings.{IsReading, may_begin_block, may_have_variant, piece_bits, may_come}
use Rattle.iloc_expected.proofs.Coming.{IsLeft, AreNone, next_may}
use Rattle.iloc_expected.proofs.NewVariants.{new_variant}
use Rattle.iloc_expected.proofs.Singles.{has_left, is_left}
use Rattle.iloc_expected.proofs.Samples.{HasPiece, AreSome, HasLeft, plain_piece, variant_piece, singleton_piece}

-- ---- the bits of a set

-- the bits of pieces have none of these kinds
abbrev HasOthers : Part → Bool → Type 0
HasOthers part keyed = (has (record { bits = piece_bits part keyed }) kinds.Variant ≡ false)
    × (has (record { bits = piece_bits part keyed }) kinds.Singleton ≡ false)
    × (has (record { bits = piece_bits part keyed }) kinds.End ≡ false)

others : (part : Part) (keyed : Bool) → HasOthers part keyed
others part keyed = grind arith

or_none : (a b : Bool) → b ≡ false → (a || b) ≡ a
or_none true b e = refl
or_none false b e = e

-- with these kinds the set is that of may_come
pub with_all : (part : Part) (keyed : Bool) (mode : Mode) (none left : Bool) (words all set : Expected) →
    ((k : PieceKind) → has words k
    ≡ (((kind_bit kinds.Variant == kind_bit k) && may_have_variant mode part none)
    || has (record { bits = piece_bits part keyed }) k)) →
    ((k : PieceKind) → has all k
    ≡ (((kind_bit kinds.Singleton == kind_bit k) && may_begin_block mode part left) || has words k)) →
    ((k : PieceKind) → has set k ≡ (((kind_bit kinds.End == kind_bit k) && may_end part) || has all k))
    → (k : PieceKind) → has set k ≡ may_come mode part keyed none left k
with_all part keyed mode none left words all set h e f k = grind (arith, or_none, others)

-- the same by what the functions gave
pub with_these : (part : Part) (keyed : Bool) (mode : Mode) (none left : Bool) (words all set : Expected)
    (v s e : Bool) (n : ℕ) → v ≡ may_have_variant mode part none → s ≡ may_begin_block mode part left →
    e ≡ may_end part → n ≡ piece_bits part keyed →
    ((k : PieceKind) → has words k ≡ (((kind_bit kinds.Variant == kind_bit k) && v)
    || has (record { bits = n }) k)) →
    ((k : PieceKind) → has all k ≡ (((kind_bit kinds.Singleton == kind_bit k) && s) || has words k)) →
    ((k : PieceKind) → has set k ≡ (((kind_bit kinds.End == kind_bit k) && e) || has all k)) →
    (k : PieceKind) → has set k ≡ may_come mode part keyed none left k
with_these part keyed mode none left words all set v s e n ev es ee en f g h = grind (arith, with_all)

-- ---- the end

module _ {mode : Mode} {ps : List Text} {r : Reading} (h : IsReading mode ps r) where
  abbrev now : Reached
  now = reached r.state.part h.variants h.seen

  at_end : outcome mode started ps ≡ outcome mode now []
  at_end = ap (outcome mode started) (sym (append-nil ps)) ∙ verdict_run mode started now ps [] h.ran

  ends_if : (b : Bool) → may_end r.state.part ≡ b → fine (outcome mode now []) ≡ b
  ends_if true e = rw e refl
  ends_if false e = rw e refl

  end_may : MayEnd mode ps → may_end r.state.part ≡ true
  end_may h = grind (arith, ends_if, fine, at_end, accepted_is)

  -- a text has these pieces
  joined : (qs : List Text) → AllByRecursion IsHyphenFree qs → qs ≢ [] → pieces (join qs) ≡ qs
  joined [] f n = absurd (n refl)
  joined (q ∷ qs) f n = pieces-join q qs f

  some_pieces : may_end r.state.part ≡ true → ps ≢ []
  some_pieces e z = grind arith

  may_end_is : may_end r.state.part ≡ true → MayEnd mode ps
  may_end_is e = grind (arith, joined, some_pieces, accepted_is, fine, at_end, ends_if)

  -- ---- a piece more

  with_one : (p : Text) → run mode (Some started) (ps ++ (p ∷ [])) ≡ run mode (next mode now p) []
  with_one p = grind (arith, run_append)

  same_run : (o : Option Reached) → run mode o [] ≡ o
  same_run None = refl
  same_run (Some x) = refl

  next_is : (kind : PieceKind) (keyed none left : Bool) → AreNone h.variants none → IsLeft h.seen left →
      keyed ≡ r.keyed → HasNext mode ps kind → may_come mode r.state.part keyed none left kind ≡ true
  next_is kind keyed none left n l k x = by (next mode now x.piece) refl
    where
      by : (o : Option Reached) → next mode now x.piece ≡ o →
          may_come mode r.state.part keyed none left kind ≡ true
      by None e = absurd (goes_no_longer mode (ps ++ (x.piece ∷ []))
          (with_one x.piece ∙ same_run (next mode now x.piece) ∙ e) x.go_on)
      by (Some q) e =
          subst (λ (c : PieceKind). may_come mode r.state.part keyed none left c ≡ true) x.is_kind
          (rw k (next_may mode r.keyed none left (place_after ps) x.piece r.state.part h.variants h.seen q
          h.place n l e))

  has_next : (kind : PieceKind) → HasPiece mode r.state.part h.variants h.seen (place_after ps) kind →
      HasNext mode ps kind
  has_next kind x = by (next mode now x.piece) refl x.comes
    where
      free : AllByRecursion IsHyphenFree (ps ++ (x.piece ∷ []))
      free = all_append IsHyphenFree ps (x.piece ∷ []) h.free (x.free, tt)

      some : (qs : List Text) → qs ++ (x.piece ∷ []) ≢ []
      some [] e = cc
      some (q ∷ qs) e = cc

      by : (o : Option Reached) → next mode now x.piece ≡ o → is_some o ≡ true → HasNext mode ps kind
      by None e s = absurd (true≢false (sym s))
      by (Some q) e s = record {
        piece = x.piece;
        go_on = goes_on mode (join (ps ++ (x.piece ∷ []))) (ps ++ (x.piece ∷ [])) [] q
            (joined (ps ++ (x.piece ∷ [])) free (some ps) ∙ sym (append-nil (ps ++ (x.piece ∷ []))))
            (with_one x.piece ∙ same_run (next mode now x.piece) ∙ e);
        is_kind = x.is_kind;
      }

  -- ---- all kinds

  pub stands_is : (none left : Bool) → AreNone h.variants none → IsLeft h.seen left → (kind : PieceKind) →
      MayStand mode ps kind → may_come mode r.state.part r.keyed none left kind ≡ true
  stands_is none left n l kinds.End x = end_may x
  stands_is none left n l kind x = next_is kind r.keyed none left n l refl x

  pub stands : (none left : Bool) → AreSome h.variants none → HasLeft h.seen left → length ps < 2 ^ 40 →
      (kind : PieceKind) → may_come mode r.state.part r.keyed none left kind ≡ true → MayStand mode ps kind
  stands none left s l few kinds.End e = may_end_is e
  stands none left s l few kinds.Variant e =
      let v = new_variant h.variants (let f = h.few in omega arith) in
      has_next kinds.Variant (variant_piece mode r.state.part h.variants h.seen r.keyed none (place_after ps)
      v.0 h.place s v.1 e)
  stands none left s l few kinds.Singleton e =
      has_next kinds.Singleton (singleton_piece mode r.state.part h.variants h.seen r.keyed left
      (place_after ps) h.place l e)
  stands none left s l few kind e =
      has_next kind (plain_piece mode r.state.part h.variants h.seen r.keyed (place_after ps) kind h.place e)

  pub none_if : AreNone h.variants (is_none r.state.variants) × AreSome h.variants (is_none r.state.variants)
  none_if = grind (arith, AreNone, AreSome)

  -- so the set is that of the kinds that may stand
  pub all_are : (set : Expected) (none left : Bool) → none ≡ is_none r.state.variants →
      (left ≡ false → (k : ℕ) → k < 36 → bit_at r.state.seen k ≡ 1) →
      ((k : PieceKind) → has set k ≡ may_come mode r.state.part r.keyed none left k) → (kind : PieceKind) →
      MayStand mode ps kind → has set kind ≡ true
  all_are set none left e l same kind m = same kind
      ∙ stands_is none left (subst (AreNone h.variants) (sym e) none_if.0)
      (is_left r.state.seen h.seen left h.seen_are l) kind m

  pub exact_are : (set : Expected) (none left : Bool) → none ≡ is_none r.state.variants →
      (left ≡ true → (k : ℕ) × (k < 36) × (bit_at r.state.seen k ≡ 0)) →
      (left ≡ false → (k : ℕ) → k < 36 → bit_at r.state.seen k ≡ 1) →
      ((k : PieceKind) → has set k ≡ may_come mode r.state.part r.keyed none left k) → length ps < 2 ^ 40 →
      AreExpected mode ps set
  exact_are set none left e s l same few kind = (
    λ f. stands none left (subst (AreSome h.variants) (sym e) none_if.1)
        (has_left r.state.seen h.seen left h.seen_are s) few kind (sym (same kind) ∙ f),
    all_are set none left e l same kind,
  )

-- whether it is none, as `is_none` says it
pub none_of : (o : Option ℕ) (b : Bool) → is_some o ≡ not b → b ≡ is_none o
none_of o b h = grind arith

-- nothing may stand where the pieces do not go on
pub none_stand : (mode : Mode) (ps : List Text) → ¬ (GoOn mode ps) → (kind : PieceKind) →
    ¬ (MayStand mode ps kind)
none_stand mode ps n kinds.End (t, a, e) = grind (arith, append-nil)
none_stand mode ps n kind x = n (fewer ps (x.piece ∷ []) x.go_on)
