-- The machine value of a box that is taken apart: its pointer and its allocator, side by side.
use Rattle.std.proofs.Common.{◌≡◌, ℕ, List, [], ◌∷◌, ◌++◌, refl, subst}
use mathlib.Core.Bool.{true, ◌&&◌}
use lib.Dec.{T}
use seplogic.Ra.Ura.{Ura}
use mir.Syntax.{impl, tnil, dnil}
use mir.Raw.{raw as bare}
use mir.Val.{Val, vptr, vstruct, vcons, vnil, of_list, has_ty, WT}
use base.Logic.{never, fst∗}
use types.Logic.{Logic, sem}
use types.Kit.{Item, Goal, Seq, Step, step, ‵, ◌$◌, move, drop, fsplit, fjoin, fpick, fpack, feq_i, feq_l}
use denote.RattleType.{RattleType, Valss}
use denote.Builtin.{RawPtr}
use denote.Memory.{lone}
use denote.RawPtr.{Ptr, block_ptr, null_ptr, ptr_val, in_a_block}
use denote.Steps.{nothing}
use denote.Param.{layout}
use denote.Param.Laws.{Laws}
use denote.Struct.Struct.{within}
use denote.Struct.Owning.{shape}
use Rattle.std.below.core.specs.declared.alloc.Allocator.{Ghosts}
use Rattle.std.below.core.proofs.alloc.Calls.{Al, handle_tells}
use Rattle.std.below.core.proofs.cell.Inside.{Good}
use Rattle.std_alloc.specs.Box.Ownership.{box_owns}
use Rattle.std_alloc.proofs.ResultValues.{and_tt}
use Rattle.iloc_handles.specs.contracts.open_box.OpenBox as row_of

-- a pointer to a place of a block, and the bits of an allocator
abbrev pub beside : ℕ → ℕ → Val → Val
beside b o h = vstruct (vcons (vptr b o) (vcons h vnil))

-- the rows of the value and of the allocator, with the allocator's laws and ghost members
pub record Rows : Type 2 where
  pub inner : RattleType
  pub heap : RattleType
  pub laws : Laws heap
  pub ghosts : Ghosts heap.Denot

-- the row of the box that is taken apart
abbrev pub opened : Rows → RattleType
opened r = row_of.the_row r.inner r.heap r.ghosts

-- its allocator, as the lemmas on allocators want it
abbrev pub allocator : Rows → Al
allocator r =
    record { row = r.heap; laws = r.laws; g = r.ghosts; d = impl [] tnil dnil; drops = impl [] tnil dnil }

-- what the pointer owns
abbrev pub owned_at : (r : Rows) → Ptr → r.heap.Denot → r.inner.Denot → base.Fml.Fml
owned_at r p a x = box_owns (r.ghosts.dealloc_token a) r.inner p x

-- such a value fits the struct
pub beside_fits : (r : Rows) (b o : ℕ) (h : Val) → Good (layout r.heap) h
    → T (has_ty (layout r.heap) h && true) × WT (beside b o h)
beside_fits r b o h fits = (and_tt (has_ty (layout r.heap) h) fits.0, (tt, (fits.1, tt)))

module _ {M : Type 1} {𝓤 : Ura M} {𝓛 : Logic 𝓤} {K : Type 0} {Γ : List (Item 𝓤)} {G : Goal 𝓤 𝓛.H} where
  -- the value of the struct is a pointer into a block beside the allocator's bits: null owns nothing
  pub take_apart : (r : Rows) → K → (d : (opened r).Denot) (vs : List Val)
      → ((b o : ℕ) (h : Val) → d.at ≡ block_ptr b o → vs ≡ beside b o h ∷ [] → Good (layout r.heap) h
      → Seq K 𝓛 (‵ (owned_at r (block_ptr b o) d.alloc d.value) ∷ ‵ (r.heap.own_val d.alloc (h ∷ [])) ∷ Γ) G)
      → Seq K 𝓛 (‵ ((opened r).own_val d vs) ∷ Γ) G
  take_apart r t d vs then =
      fsplit t $ fpick t (λ parts. fsplit t $ feq_l t (λ whole. fsplit t $ feq_l t (λ pointer. fsplit t $
      handle_tells (allocator r) t d.alloc parts.1.0
      (λ h bits fits. move t (1 ∷ []) $ drop t $ move t (1 ∷ []) $
      in_a_block t d.at (λ p. owned_at r p d.alloc d.value)
      (fst∗ 𝓤 (never 𝓤) (sem 𝓛 (r.ghosts.dealloc_token d.alloc (bare (lone r.inner.mir)) null_ptr)))
      (λ b o is.
      let struct_of : List Val → List Val → List Val = λ ps hs. vstruct (of_list (ps ++ (hs ++ []))) ∷ [] in
      let by_pointer = subst (λ (ps : List Val). vs ≡ struct_of ps parts.1.0) pointer whole in
      let by_bits = subst (λ (hs : List Val). vs ≡ struct_of (ptr_val d.at ∷ []) hs) bits by_pointer in
      then b o h is (subst (λ (p : Ptr). vs ≡ struct_of (ptr_val p ∷ []) (h ∷ [])) is by_bits) fits)))))

  -- and from both it is made again
  pub put_together : (r : Rows) → K → (b o : ℕ) (h : Val) (a : r.heap.Denot) (x : r.inner.Denot)
      → Step K 𝓛
      (‵ ((opened r).own_val (record { at = block_ptr b o; alloc = a; value = x }) (beside b o h ∷ [])) ∷ Γ) G
      (‵ (owned_at r (block_ptr b o) a x) ∷ ‵ (r.heap.own_val a (h ∷ [])) ∷ Γ) G
  put_together r t b o h a x = step (λ rest.
      let p : List Val = vptr b o ∷ [] in let w : List Val = beside b o h ∷ [] in
      let fields = within (shape (row_of.the_type r.inner r.heap r.ghosts)) (block_ptr b o, (a, tt)) w in
      nothing t $ move t (2 ∷ 0 ∷ []) $ fjoin t $ feq_i t (List Val) p p refl $ fjoin t $
      feq_i t (List Val) w w refl $ fjoin t $
      fpack t (Valss (RawPtr ∷ r.heap ∷ [])) fields (p, (h ∷ [], tt)) $ fjoin t $ rest)
