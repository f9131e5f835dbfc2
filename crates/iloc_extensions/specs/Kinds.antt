-- The kinds of extensions.
use Rattle.iloc_spec_parts.specs.Orders.{ExtensionKind, OfTransform, OfUnicode, OfPrivate, OfOther}
use Rattle.iloc_extensions.specs.declared.extension_type.ExtensionType.{ExtensionType}
use Rattle.iloc_extensions.specs.declared.extension_type.ExtensionType.TheVariants.{Transform, Unicode, Private}
use Rattle.iloc_extensions.specs.declared.extension_type.ExtensionType.TheVariants.{Other}

-- the kind of extension that a type of extension names
abbrev pub kind_of : ExtensionType → ExtensionKind
kind_of Transform = OfTransform
kind_of Unicode = OfUnicode
kind_of Private = OfPrivate
kind_of (Other b) = OfOther b
