-- Laws of what a writer holds.
use Rattle.std.specs.Prelude.{◌≡◌, ℕ, ◌+◌, List, [], ◌++◌, length, Option, Some, None}
use Rattle.std.specs.Io.KnownBytes.{Appends}
use Rattle.std.proofs.Common.{refl, sym, ap, ◌∙◌, arith, append_assoc, append-nil, length-append}
use Rattle.iloc_writeable.specs.Growth.{Added, Broken}

pub appends_nothing : (u : Option (List ℕ)) → Appends u u []
appends_nothing None = tt
appends_nothing (Some xs) = sym (append-nil xs)

pub appends_both : (u v w : Option (List ℕ)) (s t : List ℕ)
    → Appends u v s → Appends v w t → Appends u w (s ++ t)
appends_both None v w s t p q = tt
appends_both (Some xs) None w s t p q = absurd p
appends_both (Some xs) (Some ys) None s t p q = absurd q
appends_both (Some xs) (Some ys) (Some zs) s t p q = q ∙ ap (λ l. l ++ t) p ∙ append_assoc xs s t

module _ {E : Type 0} where
  pub added_nothing : (u : Option (List ℕ)) (e : Option E) → Added u e [] u e
  added_nothing u e = record { bytes = appends_nothing u; same_error = refl }

  pub added_both : (u v w : Option (List ℕ)) (d e f : Option E) (s t : List ℕ)
      → Added u d s v e → Added v e t w f → Added u d (s ++ t) w f
  added_both u v w d e f s t p q = record {
    bytes = appends_both u v w s t p.bytes q.bytes;
    same_error = q.same_error ∙ p.same_error;
  }

  pub broken_after : (u v w : Option (List ℕ)) (d e f : Option E) (s t rest : List ℕ)
      → Added u d s v e → Broken v t rest w f → Broken u (s ++ t) rest w f
  broken_after u v w d e f s t rest p q = record {
    bytes = appends_both u v w s t p.bytes q.bytes;
    missing = q.missing;
    reason = q.reason;
  }

  pub broken_more : (u v : Option (List ℕ)) (t rest more : List ℕ) (e : Option E)
      → Broken u t rest v e → Broken u t (rest ++ more) v e
  broken_more u v t rest more e q =
      let l : length (rest ++ more) ≡ length rest + length more = length-append rest more in
      let some = q.missing in
      record { bytes = q.bytes; missing = omega (arith, l, some); reason = q.reason }
