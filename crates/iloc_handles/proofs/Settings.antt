-- Locales that are equal, and changes that want a box.
use Rattle.std.proofs.Common.{◌≡◌, ℕ, Bool, true, false, IsTrue, ◌↔◌, inl, inr, refl, sym, ◌∙◌, subst, true≢false}
use Rattle.std.specs.Prelude.{◌≢◌, Option, None}
use Rattle.std.specs.Int.{from_bool}
use Rattle.std.specs.Ordering.{is_eq}
use Rattle.std.specs.Cmp.{Equal-is}
use Rattle.std.specs.declared.cmp.Ordering.{Ordering}
use Rattle.iloc_spec_grammar.specs.Syntax.{Text, languages}
use Rattle.iloc_spec_grammar.specs.Meaning as meaning
use Rattle.iloc_spec_grammar.specs.Meaning.{Means}
use Rattle.iloc_spec_grammar.proofs.RawLaws.{languages_table}
use Rattle.iloc_spec_grammar.proofs.SameMeaning.{one_meaning}
use Rattle.iloc_spec_parts.specs.Orders.{locale_cmp}
use Rattle.iloc_spec_parts.proofs.OrderLaws.{locale_exact}
use Rattle.iloc_calls.specs.declared.status.Status.{Status}
use Rattle.iloc_calls.specs.declared.status.Status.TheVariants.{Done, OutOfMemory}
use Rattle.iloc_handles.specs.Finding.{Changing, Changes, LacksBox}
use Rattle.iloc_handles.specs.Whole.{TellsMeant}
use Rattle.iloc_locale.specs.LocaleReading.{value_of, unknown_locale}
use Rattle.iloc_locale.specs.declared.locale.Locale.{Locale}

-- locales are equal exactly if neither comes first
pub equal_by_order : (M N : meaning.Locale) (o : Ordering) (same : Bool) → o ≡ locale_cmp M N → same ≡ is_eq o
    → IsTrue same ↔ (M ≡ N)
equal_by_order M N o same is e = (
  λ s. (locale_exact.exact M N).0 (sym is ∙ (Equal-is o).0 (sym e ∙ s)),
  λ h. e ∙ (Equal-is o).1 (is ∙ (locale_exact.exact M N).1 h),
)

-- the number of what holds exactly if a text means the locale
by_number : (t : Text) (M : meaning.Locale) (before : ℕ) (same : Bool) → IsTrue same ↔ Means languages t M
    → TellsMeant t M before (from_bool same) Done
by_number t M before true e = inl (refl, e.0 refl)
by_number t M before false e = inr (refl, λ m. true≢false (sym (e.1 m)))

-- a text means the locale exactly if it was parsed as that
pub meant : (t : Text) (M N : meaning.Locale) (before after : ℕ) (o : Ordering) (same : Bool) →
    Means languages t N
    → o ≡ locale_cmp M N → same ≡ is_eq o → after ≡ from_bool same → TellsMeant t M before after Done
meant t M N before after o same n is e a =
    let q = equal_by_order M N o same is e in
    subst (λ x. TellsMeant t M before x Done) (sym a) (by_number t M before same
    (λ s. subst (Means languages t) (sym (q.0 s)) n, λ m. q.1 (one_meaning languages_table t M N m n)))

-- memory was refused for the box that a change of `und` wants
pub lacks_box : (P : Changing) (before after : Option Locale) (l m : Locale) (s : Status) → before ≡ None →
    after ≡ None
    → value_of l ≡ unknown_locale → P (value_of l) (value_of m) s → value_of m ≢ unknown_locale
    → Changes P before after OutOfMemory
lacks_box P before after l m s b a und p other =
    let changed : P unknown_locale (value_of m) s = subst (λ M. P M (value_of m) s) und p in
    inr (
      refl,
      subst (λ x. LacksBox P x after) (sym b)
          (subst (LacksBox P None) (sym a) (value_of m, s, changed, other)),
    )
