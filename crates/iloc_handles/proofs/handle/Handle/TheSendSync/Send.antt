-- A locale may go to another thread, and any thread may free its block; so both may what a handle owns.
use mir.Raw.{raw}
use base.Shift.{Keyless}
use denote.Memory.{lone}
use denote.RawPtr.{Ptr, block_ptr, null_ptr}
use denote.Struct.Struct.{exits_of}
use denote.Struct.Owning.{shape, fields, to}
use denote.Param.Send.{IsSend, AllSend, owning_send, struct_send, sendable}
use Rattle.std.specs.Prelude.{Option, None, Some}
use Rattle.std_alloc.proofs.SendSync.{quiet, lies}
use Rattle.std.proofs.Crossing.{frees}
use Rattle.iloc_locale.specs.declared.locale.Locale.{Locale}
use Rattle.iloc_locale.specs.contracts.locale.Locale as locale
use Rattle.iloc_locale.proofs.locale.Locale.TheSendSync.{the_send as locale_send}
use Rattle.iloc_handles.specs.Owned.{owned, heap}
use Rattle.iloc_handles.specs.contracts.handle.Handle.{the_row, the_type}

-- what a handle owns is tied to no thread
owned_by_any : (p : Ptr) (l : Option Locale) → Keyless (owned p l)
owned_by_any null_ptr None = tt
owned_by_any null_ptr (Some m) = tt
owned_by_any (block_ptr b o) None = tt
owned_by_any (block_ptr b o) (Some m) =
    let p = block_ptr b o in
    (lies locale.the_row locale_send p m, frees.frees heap (raw (lone locale.the_row.mir)) p)

pub send : IsSend the_row
send =
    let parts = fields the_type in
    let all : AllSend parts = (search sendable, tt) in
    let pointer = (struct_send (shape the_type) all).leaving in
    owning_send the_type all (λ d. owned_by_any d.at d.value)
    (λ k. quiet (to the_type) (exits_of k parts) (pointer k))
