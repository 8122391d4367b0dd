-- The number of each refusal of a call from outside. 11 was that of what has the numbers 16 to 23 now.
use Rattle.std.specs.Prelude.{ℕ}
use Rattle.library_calls.specs.declared.byte_calls.error.CallError.{CallError}
use Rattle.library_calls.specs.declared.byte_calls.error.CallError.TheVariants.{OutOfMemory, NotOpen, OtherKind, Null, Length, Tag, Number, NotHeld, Room, InUse, NoRange, Overlap, Beyond, Malformed, Sectors, Shadow, Msid, Profile, Serial, Model, Psid, Datastore, RangeTwice, VersionDiffers, Shared, Misaligned, Busy, Seed}

-- the number of a call that was done
abbrev pub done_code : ℕ
done_code = 0

abbrev pub code_of_call : CallError → ℕ
code_of_call OutOfMemory = 1
code_of_call NotOpen = 2
code_of_call OtherKind = 3
code_of_call Null = 4
code_of_call Length = 5
code_of_call Tag = 6
code_of_call Number = 7
code_of_call NotHeld = 8
code_of_call Room = 9
code_of_call InUse = 10
code_of_call NoRange = 12
code_of_call Overlap = 13
code_of_call Beyond = 14
code_of_call Malformed = 15
code_of_call Sectors = 16
code_of_call Shadow = 17
code_of_call Msid = 18
code_of_call Profile = 19
code_of_call Serial = 20
code_of_call Model = 21
code_of_call Psid = 22
code_of_call Datastore = 23
code_of_call RangeTwice = 24
code_of_call VersionDiffers = 25
code_of_call Shared = 26
code_of_call Misaligned = 27
code_of_call Busy = 28
code_of_call Seed = 29
