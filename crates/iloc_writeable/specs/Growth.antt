-- What a writer holds after a text was written to it, if that is known.
use Rattle.std.specs.Prelude.{◌≡◌, ℕ, ◌<◌, List, length, Option, IsSome}
use Rattle.std.specs.Io.{StartsWith}
use Rattle.std.specs.Io.KnownBytes.{Appends}

-- a beginning of the text was added, and not all of it
pub record AddsBeginning (old new : Option (List ℕ)) (text : List ℕ) : Type 0 where
  pub written : List ℕ
  pub bytes : Appends old new written
  pub begins : StartsWith text written
  pub shorter : length written < length text

module _ {E : Type 0} where
  -- the text was added, and the kept error is as it was
  pub record Added (old : Option (List ℕ)) (old_error : Option E) (text : List ℕ)
      (new : Option (List ℕ)) (new_error : Option E) : Type 0 where
    pub bytes : Appends old new text
    pub same_error : new_error ≡ old_error

  -- the text was added; then a write failed, with some of the rest still to come, and why is kept
  pub record Broken (old : Option (List ℕ)) (text rest : List ℕ) (new : Option (List ℕ))
      (error : Option E) : Type 0 where
    pub bytes : Appends old new text
    pub missing : 0 < length rest
    pub reason : IsSome error
