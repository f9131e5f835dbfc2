-- The machine value of a handle: a pointer.
use Rattle.std.proofs.Common.{◌≡◌, ℕ, List, [], ◌∷◌, ◌++◌, refl, subst, lit<}
use lib.Dec.{T}
use seplogic.Ra.Ura.{Ura}
use mir.Raw.{raw as bare}
use mir.Val.{Val, vstruct, vcons, vnil, of_list, has_ty, WT}
use base.Fml.{Fml, ftrue}
use base.Logic.{ent, guard, via, snd∗, guard_i, never_e}
use contract.Monad.{fact_use}
use types.Logic.{Logic, sem}
use types.Kit.{Item, Goal, Seq, Step, step, ‵, given, ◌$◌, drop, use1, learn, fsplit, fjoin, fpick, fpack, feq_i, feq_l}
use denote.RattleType.{Valss}
use denote.Builtin.{RawPtr}
use denote.Memory.{lone}
use denote.RawPtr.{Ptr, block_ptr, null_ptr, ptr_val, Testable}
use denote.Param.{layout}
use denote.Steps.{nothing}
use denote.Struct.Struct.{within}
use denote.Struct.Owning.{shape}
use Rattle.std.specs.Ptr.{points_to}
use Rattle.std.specs.Box.Ownership.{box_owns}
use Rattle.std.specs.Global.{Global}
use Rattle.std.specs.Prelude.{Option, None, Some}
use Rattle.std.specs.contracts.alloc.Global as heap
use Rattle.std.specs.contracts.impls.GlobalAllocator.TheImpl.{ghosts}
use Rattle.std.proofs.GlobalToken.{dealloc_token-Testable}
use Rattle.std.proofs.alloc.Global.TheLaws as heap_laws
use Rattle.iloc_locale.specs.declared.locale.Locale.{Locale}
use Rattle.iloc_locale.specs.contracts.locale.Locale as locale
use Rattle.iloc_handles.specs.Owned.{owned, may_free}
use Rattle.iloc_handles.specs.contracts.handle.Handle.{the_row, the_type}
use Rattle.iloc_handles.proofs.OpenBoxWords.{Rows}

-- the rows of a locale in a box of the heap
abbrev pub boxed : Rows
boxed = record { inner = locale.the_row; heap = heap.the_row; laws = heap_laws.the_row_laws; ghosts = ghosts }

-- the value of a struct with one field
abbrev pub alone : Val → Val
alone v = vstruct (vcons v vnil)

-- a pointer is a value of the struct
pub pointer_fits : (p : Ptr) → T (has_ty (layout the_row) (alone (ptr_val p))) × WT (alone (ptr_val p))
pointer_fits (block_ptr b o) = (tt, (tt, tt))
pointer_fits null_ptr = (tt, (record { fits = lit< tt }, tt))

-- what a pointer to a locale owns
abbrev pub owns_box : Ptr → Locale → Fml
owns_box p l = box_owns may_free locale.the_row p l

-- whoever may free a block may compare its pointer with null
pub may_test : {M : Type 1} {𝓤 : Ura M} (𝓛 : Logic 𝓤) (a : Global) (p : Ptr) (l : Locale)
    → ent 𝓤 (sem 𝓛 (owns_box p l)) (guard 𝓤 (Testable p) (sem 𝓛 (owns_box p l)))
may_test {𝓤 = 𝓤} 𝓛 a p l =
    let at : Fml = points_to locale.the_row p l in
    let free : Fml = may_free (bare (lone locale.the_row.mir)) p in
    let freeing = via 𝓤 _ (snd∗ 𝓤 (sem 𝓛 at) (sem 𝓛 free))
    (dealloc_token-Testable 𝓛 a (bare (lone locale.the_row.mir)) p) in
    fact_use 𝓤 (Testable p) freeing (guard_i 𝓤 (Testable p) (sem 𝓛 (owns_box p l)))

module _ {M : Type 1} {𝓤 : Ura M} {𝓛 : Logic 𝓤} {K : Type 0} {Γ : List (Item 𝓤)} {G : Goal 𝓤 𝓛.H} where
  -- the value of a handle is its pointer, with what that owns
  pub look_in : K → (d : the_row.Denot) (vs : List Val)
      → (vs ≡ alone (ptr_val d.at) ∷ [] → Seq K 𝓛 (‵ (owned d.at d.value) ∷ Γ) G)
      → Seq K 𝓛 (‵ (the_row.own_val d vs) ∷ Γ) G
  look_in t d vs then =
      fsplit t $ fpick t (λ parts. fsplit t $ feq_l t (λ whole. fsplit t $ feq_l t (λ pointer.
      let by_pointer : vs ≡ alone (ptr_val d.at) ∷ [] =
      subst (λ (ps : List Val). vs ≡ vstruct (of_list (ps ++ [])) ∷ []) pointer whole in
      drop t $ then by_pointer)))

  -- and is made of both again
  pub make : K → (p : Ptr) (l : Option Locale)
      → Step K 𝓛 (‵ (the_row.own_val (record { at = p; value = l }) (alone (ptr_val p) ∷ [])) ∷ Γ) G
      (‵ (owned p l) ∷ Γ) G
  make t p l = step (λ rest.
      let v : List Val = ptr_val p ∷ [] in let w : List Val = alone (ptr_val p) ∷ [] in
      nothing t $ feq_i t (List Val) v v refl $ fjoin t $ feq_i t (List Val) w w refl $ fjoin t $
      fpack t (Valss (RawPtr ∷ [])) (within (shape the_type) (p, tt) w) (v, tt) $ fjoin t $ rest)

  -- what a handle owns is nothing at null, or a box that can be told from null
  pub two_cases : K → Global → (p : Ptr) (l : Option Locale)
      → (p ≡ null_ptr → l ≡ None → Seq K 𝓛 Γ G)
      → ((b o : ℕ) (m : Locale) → p ≡ block_ptr b o → l ≡ Some m → Testable (block_ptr b o)
      → Seq K 𝓛 (‵ (owns_box (block_ptr b o) m) ∷ Γ) G)
      → Seq K 𝓛 (‵ (owned p l) ∷ Γ) G
  two_cases t a null_ptr None nothing_there box_there = drop t $ nothing_there refl refl
  two_cases t a null_ptr (Some m) nothing_there box_there =
      use1 𝓛 (given ⊥ (‵ ftrue)) (never_e 𝓤 _) $ learn t (λ never. absurd never)
  two_cases t a (block_ptr b o) None nothing_there box_there =
      use1 𝓛 (given ⊥ (‵ ftrue)) (never_e 𝓤 _) $ learn t (λ never. absurd never)
  two_cases t a (block_ptr b o) (Some m) nothing_there box_there =
      let p = block_ptr b o in
      use1 𝓛 (given (Testable p) (‵ (owns_box p m))) (may_test 𝓛 a p m) $
      learn t (λ tested. box_there b o m refl refl tested)
