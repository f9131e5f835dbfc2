-- A locale may be read in any thread, and a lifetime's token is tied to none.
use base.Fml.{Lft}
use base.Shift.{Keyless}
use denote.RawPtr.{Ptr, block_ptr, null_ptr}
use denote.Struct.Struct.{exits_of}
use denote.Struct.Owning.{shape, fields, to}
use denote.Param.Send.{IsSend, AllSend, owning_send, struct_send, sendable}
use Rattle.std.specs.Prelude.{Option, None, Some, [], ◌∷◌}
use Rattle.std_alloc.proofs.SendSync.{quiet, seen}
use Rattle.iloc_locale.specs.declared.locale.Locale.{Locale}
use Rattle.iloc_locale.specs.contracts.locale.Locale as locale
use Rattle.iloc_locale.proofs.locale.Locale.TheSendSync.{the_sync as locale_sync}
use Rattle.iloc_handles.specs.Owned.{lent}
use Rattle.iloc_handles.specs.contracts.lent.Lent.{the_row, the_type}

-- what is lent is tied to no thread
lent_to_any : (p : Ptr) (l : Option Locale) (κ : Lft) → Keyless (lent p l κ)
lent_to_any null_ptr None κ = tt
lent_to_any null_ptr (Some m) κ = tt
lent_to_any (block_ptr b o) None κ = tt
lent_to_any (block_ptr b o) (Some m) κ = (tt, seen locale.the_row locale_sync (block_ptr b o) m κ)

pub send : IsSend the_row
send =
    let parts = fields the_type in
    let all : AllSend parts = (search sendable, tt) in
    let pointer = (struct_send (shape the_type) all).leaving in
    owning_send the_type all (λ d. (tt, lent_to_any d.at d.value (d.life ∷ [])))
    (λ k. quiet (to the_type) (exits_of k parts) (pointer k))
