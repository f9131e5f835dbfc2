-- A sink that holds its text and counts its failures.
use Rattle.std.specs.Prelude.{◌≡◌, ℕ, ◌-◌, ◌^◌, ◌<◌, List, [], ◌++◌}
use Rattle.std.specs.String.{string_bytes}
use Rattle.std.proofs.Common.{sym, ◌∙◌, ap, subst, append_assoc, append-nil}
use Rattle.test_streams.specs.declared.failing.FailingSink.{FailingSink}

-- the text was appended, and nothing failed
pub record Held (old : FailingSink) (text : List ℕ) (new : FailingSink) : Type 0 where
  pub text_is : string_bytes new.text ≡ string_bytes old.text ++ text
  pub none_failed : new.failures ≡ old.failures

-- the text was appended, and then a write failed: the count rose, or it is at its greatest
pub record Failed (old : FailingSink) (text : List ℕ) (new : FailingSink) : Type 0 where
  pub text_is : string_bytes new.text ≡ string_bytes old.text ++ text
  pub one_failed : old.failures < 2 ^ 64 - 1 → old.failures < new.failures

pub Held-nothing : (s : FailingSink) → Held s [] s
Held-nothing s = record {
  text_is = sym (append-nil (string_bytes s.text));
  none_failed = λ i. s.failures;
}

pub Held-both : (a b c : FailingSink) (s t : List ℕ) → Held a s b → Held b t c → Held a (s ++ t) c
Held-both a b c s t p q = record {
  text_is = q.text_is ∙ ap (λ x. x ++ t) p.text_is ∙ append_assoc (string_bytes a.text) s t;
  none_failed = q.none_failed ∙ p.none_failed;
}

pub Failed-after : (a b c : FailingSink) (s t : List ℕ) → Held a s b → Failed b t c
    → Failed a (s ++ t) c
Failed-after a b c s t p q = record {
  text_is = q.text_is ∙ ap (λ x. x ++ t) p.text_is ∙ append_assoc (string_bytes a.text) s t;
  one_failed = subst (λ n. n < 2 ^ 64 - 1 → n < c.failures) p.none_failed q.one_failed;
}
