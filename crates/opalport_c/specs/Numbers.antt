-- What a call of the table of numbers does, with its code.
use Rattle.std.specs.Prelude.{◌≡◌, ◌⊎◌, ℕ, Bool, List, None, Some}
use Rattle.handles.specs.declared.entry.Entry.{Entry}
use Rattle.handles.specs.declared.entry.Number.{Number}
use Rattle.handles.specs.declared.table.HandleError.{HandleError}
use Rattle.handles.specs.declared.table.HandleError.TheVariants as handles
use Rattle.handles.specs.Numbers.{IsGiven, IsFull, Lends, TakesBack, lending_fault, returning_fault}
use Rattle.library_calls.specs.declared.byte_calls.error.CallError.{CallError}
use Rattle.library_calls.specs.declared.byte_calls.error.CallError.TheVariants.{NotOpen, Room, Busy}
use Rattle.library_calls.specs.Refusals.{done_code, code_of_call}
use Rattle.opalport_c.specs.declared.numbers.Given.{Given}

abbrev pub handle_refusal : HandleError → CallError
handle_refusal handles.NoHandle = NotOpen
handle_refusal handles.Busy = Busy

abbrev pub refused_number : CallError → Given
refused_number error = record { code = code_of_call error; place = 0; generation = 0 }

abbrev pub given_number : Given → Number
given_number given = record { place = given.place; generation = given.generation }

-- A number was given, or the table is full, and as before.
abbrev pub GivesNumber : List Entry → List Entry → Given → Type 0
GivesNumber old new given = ((given.code ≡ done_code) × IsGiven old new (given_number given))
    ⊎ (IsFull old × (given ≡ refused_number Room) × (new ≡ old))

-- The object of a number was lent, or was refused, and the table is as before.
abbrev pub LendsNumber : List Entry → List Entry → Number → ℕ → Type 0
LendsNumber old new n code =
    ((code ≡ done_code) × (lending_fault old n ≡ None) × Lends old new n)
    ⊎ ((e : HandleError) × (lending_fault old n ≡ Some e)
    × (code ≡ code_of_call (handle_refusal e)) × (new ≡ old))

-- It was taken back, or was refused.
abbrev pub TakesNumberBack : List Entry → List Entry → Number → Bool → ℕ → Type 0
TakesNumberBack old new n there code =
    ((code ≡ done_code) × (returning_fault old n ≡ None) × TakesBack old new n there)
    ⊎ ((e : HandleError) × (returning_fault old n ≡ Some e)
    × (code ≡ code_of_call (handle_refusal e)) × (new ≡ old))
