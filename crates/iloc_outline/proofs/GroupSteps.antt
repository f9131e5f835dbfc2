-- Words that are put in a tree, behind other spans.
use Rattle.std.proofs.Common.{◌≡◌, ◌≢◌, ℕ, ◌+◌, Bool, false, List, ◌++◌, length, take, drop, refl, sym, ap, ◌∙◌, arith, true≢false}
use Rattle.std.proofs.Math.Seq.{drop-append_seam, take-append_seam}
use Rattle.iloc_outline.specs.Gathering.{Walks}
use Rattle.iloc_spans.specs.Group.{IsGrouped}
use Rattle.iloc_spans.specs.Inserting.{IsInserted, IsPutFrom, spans_in_order}
use Rattle.iloc_spans.specs.declared.inserting.Inserted.{Inserted}
use Rattle.iloc_spans.specs.declared.inserting.Inserted.TheVariants.{Full}
use Rattle.iloc_spans.specs.declared.span.Role.{Role}
use Rattle.iloc_spans.specs.declared.span.Span.{Span}
use Rattle.iloc_pieces.specs.declared.place.Cursor.{Cursor}
use Rattle.iloc_spans.proofs.Arranging.{arranged_twice}

-- spans behind as many others
module _ (from : ℕ) (F old before ss : List Span) (l : length F ≡ from) (n : length before ≡ from)
    (e : F ++ old ≡ before ++ spans_in_order ss) where
  same_front : F ≡ before
  same_front =
      sym (take-append_seam F old) ∙ (λ j. take (l j) (e j))
      ∙ ap (λ k. take k (before ++ spans_in_order ss)) (sym n)
      ∙ take-append_seam before (spans_in_order ss)

  same_back : old ≡ spans_in_order ss
  same_back =
      sym (drop-append_seam F old) ∙ (λ j. drop (l j) (e j))
      ∙ ap (λ k. drop k (before ++ spans_in_order ss)) (sym n)
      ∙ drop-append_seam before (spans_in_order ss)

-- what is put in a tree is put behind other spans
pub grouped_inserted : (from : ℕ) (s : Span) (F old new : List Span) (r : Inserted) → length F ≡ from →
    r ≢ Full
    → IsGrouped s old new r → IsInserted from s (F ++ old) (F ++ new) r
grouped_inserted from s F old new Full l n h = absurd (n refl)
grouped_inserted from s F old new _ l n h = λ before ss k e. let is = h ss
    (same_back from F old before ss l k e) in ((λ j. same_front from F old before ss l k e j ++ is.0 j), is.1)

pub grouped_put_from : (from : ℕ) (s : Span) (F old new : List Span) (last : ℕ) (r : Inserted) →
    length F ≡ from
    → r ≢ Full → IsGrouped s old new r
    → IsPutFrom from s (F ++ old) (F ++ new) last (last + s.word) false false r
grouped_put_from from s F old new last r l n h = grind (arith, grouped_inserted)

-- the spans of a group go into a tree
module _ (r : Role) (first at : Cursor) (before mid : List Span) (last : ℕ) (o n : Bool)
    (w : Walks r first at before mid last o n) where
  pub walks_out : (F group : List Span) → F ≡ take (length before) mid
      → group ≡ spans_in_order (drop (length before) mid)
      → (F ≡ before) × Walks r first at before (F ++ group) last o false
  walks_out F group f g = grind (arith, true≢false, take-append_seam, drop-append_seam, arranged_twice)
