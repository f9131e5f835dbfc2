-- The machine value of a loan, which is a pointer, and what is lent by it. Assumes `Logic`.
use Rattle.std.proofs.Common.{◌≡◌, ℕ, List, [], ◌∷◌, ◌++◌, ap, ◌∙◌, refl}
use seplogic.Ra.Ura.{Ura}
use mir.Val.{Val, vstruct, of_list}
use base.Fml.{Lft, ftrue}
use base.Logic.{never_e}
use types.Logic.{Logic}
use types.Kit.{Item, Goal, Seq, ‵, given, ◌$◌, drop, use1, learn, fsplit, flt_l}
use denote.Copied.{Struct-Copied}
use denote.Laws.{Is}
use denote.Opens.{Opens}
use denote.RattleType.{RattleType}
use denote.RawPtr.{Ptr, block_ptr, null_ptr, ptr_val, Testable}
use denote.Struct.Laws.{RawPtr-copy}
use denote.Struct.Lending.{lent_at}
use denote.Struct.Owning.{shape}
use denote.Struct.Struct.{Struct}
use Rattle.std.specs.Prelude.{Option, None, Some}
use Rattle.iloc_locale.specs.declared.locale.Locale.{Locale}
use Rattle.iloc_handles.specs.contracts.lent.Lent.{the_type}
use Rattle.iloc_locale.specs.contracts.locale.Locale as locale
use Rattle.iloc_handles.specs.Owned.{lent}
use Rattle.iloc_handles.proofs.HandleWords.{alone}

-- a loan's field, as a struct
abbrev pub Data : RattleType
Data = Struct (shape the_type)

-- its machine value is the pointer's
pub told : (p : Ptr) (vs : List Val) → Is Data (p, tt) vs → vs ≡ alone (ptr_val p) ∷ []
told p vs is = is.1.0 ∙ ap (λ (ws : List Val). vstruct (of_list (ws ++ [])) ∷ []) is.1.1.0

-- and can be copied, so a `&` to it is read
pub opened : {M : Type 1} {𝓤 : Ura M} (𝓛 : Logic 𝓤) → Opens 𝓛 Data
opened {M} {𝓤 = 𝓤} 𝓛 = (Struct-Copied 𝓛 (shape the_type) (refl, tt) (RawPtr-copy.copied M 𝓤 𝓛, tt)).opens

module _ {M : Type 1} {𝓤 : Ura M} {𝓛 : Logic 𝓤} {K : Type 0} {Γ : List (Item 𝓤)} {G : Goal 𝓤 𝓛.H} where
  -- what is lent is nothing at null, or the locale, at a pointer that can be told from null
  pub lent_cases : K → (p : Ptr) (l : Option Locale) (κ : Lft)
      → (p ≡ null_ptr → l ≡ None → Seq K 𝓛 Γ G)
      → ((b o : ℕ) (m : Locale) → p ≡ block_ptr b o → l ≡ Some m → Testable (block_ptr b o)
      → Seq K 𝓛 (‵ (lent_at locale.the_row (block_ptr b o) m κ) ∷ Γ) G)
      → Seq K 𝓛 (‵ (lent p l κ) ∷ Γ) G
  lent_cases t null_ptr None κ nothing_there locale_there = drop t $ nothing_there refl refl
  lent_cases t null_ptr (Some m) κ nothing_there locale_there =
      use1 𝓛 (given ⊥ (‵ ftrue)) (never_e 𝓤 _) $ learn t (λ never. absurd never)
  lent_cases t (block_ptr b o) None κ nothing_there locale_there =
      use1 𝓛 (given ⊥ (‵ ftrue)) (never_e 𝓤 _) $ learn t (λ never. absurd never)
  lent_cases t (block_ptr b o) (Some m) κ nothing_there locale_there =
      fsplit t $ flt_l t (λ tested. locale_there b o m refl refl tested)
