-- What is kept of extensions by their kinds.
use Rattle.std.specs.Prelude.{◌≡◌, Bool, [], if◌then◌else◌}
use Rattle.std.specs.List.Retain.{IsFiltered}
use Rattle.iloc_spec_grammar.specs.Meaning.{Extensions, no_unicode, no_transform}
use Rattle.iloc_extensions.specs.declared.extension_type.ExtensionType.{ExtensionType}
use Rattle.iloc_extensions.specs.declared.extension_type.ExtensionType.TheVariants.{Transform, Unicode, Private}
use Rattle.iloc_extensions.specs.declared.extension_type.ExtensionType.TheVariants.{Other}

-- A predicate that started as f was asked of the unicode extension, of the transform, of the
-- private one and of each other in list order, each call starting where the last one ended. What it
-- answered false at is empty afterwards.
pub record RetainsByType {F : Type 0} (step : F → ExtensionType → Bool → F → Type 0) (f : F)
    (old new : Extensions) : Type 0 where
  pub after_unicode : F
  pub after_transform : F
  pub after_private : F
  pub keeps_unicode : Bool
  pub keeps_transform : Bool
  pub keeps_private : Bool
  pub asks_unicode : step f Unicode keeps_unicode after_unicode
  pub asks_transform : step after_unicode Transform keeps_transform after_transform
  pub asks_private : step after_transform Private keeps_private after_private
  pub unicode : new.unicode ≡ (if keeps_unicode then old.unicode else no_unicode)
  pub transform : new.transform ≡ (if keeps_transform then old.transform else no_transform)
  pub private : new.private ≡ (if keeps_private then old.private else [])
  pub others : IsFiltered (λ g (s, _) b h. step g (Other s) b h) after_private old.others new.others
