-- How many bytes the drive gives.
use Rattle.trusted_cmds.specs.Commands.{is_protocol_list, pages_asked}
use Rattle.device_data.specs.Protocols.{protocol_list, certificate_data}
use Rattle.sp_cells.specs.Config.{Config}
use Rattle.basics.specs.declared.profile.Profile.TheVariants.{Base, Field, Opal}
use Rattle.basics.specs.declared.profile.Profile.{Profile}
use Rattle.device_data.specs.DevicePages.{directory_head, page_list_head, security_head, page_head as page_head_of, identify_page, device_log}
use Rattle.device_data.specs.declared.settings.Settings.{Settings}
use Rattle.trusted_cmds.specs.declared.log_pages.LogPages.{LogPages}
use Rattle.trusted_cmds.specs.declared.log_pages.LogPages.TheVariants.{Directory, IdentifyData}
use Rattle.std.proofs.Common.{◌≡◌, ◌∙◌, ℕ, zero, suc, ◌+◌, ◌-◌, ◌*◌, ◌/◌, ◌≤◌, ◌<◌, ◌&&◌, nat_le, nat_lt, Bool, true, false, List, [], ◌∷◌, ◌++◌, length, replicate, if◌then◌else◌, Option, Some, None, refl, ap, arith}
use Rattle.std.specs.Prelude.{take, drop, unwrap_or}
use Rattle.std.specs.List.{flat_map, list_any}
use Rattle.trusted_cmds.specs.Trims.{has_sector}
use Rattle.std.proofs.lemmas.List.{length-take, length-take-le, length-drop, length-append, length-replicate}
use Rattle.std.proofs.lemmas.Bool.Decides.{nat_tests}
use Rattle.device_data.specs.ErrorLog.{sized, error_log, page_head}
use Rattle.device_data.proofs.Identities.{length-words, length-run, opal_length}
use Rattle.device_data.specs.Identity.{identity, identify_word, run_from, identity_in, identity_of, field_word, field_identity}
use Rattle.device_data.specs.Discovery.{discovery_of}
use Rattle.device_data.specs.StackReset.{stack_answer}
use Rattle.sessions.specs.Beside.{channel_of}
use Rattle.device_data.specs.declared.log_page.Failure.{Failure}
use Rattle.shadow_mbr.specs.Stored.{zeros, sectors_from}
use Rattle.transactions.specs.Bytes.{bytes_from}
use Rattle.trusted_cmds.specs.declared.command.Command.{Command}
use Rattle.trusted_cmds.specs.declared.command.Command.TheVariants.{ReadQueued, WriteQueued, ReadDma, WriteDma, Send, Receive, Identify, ReadLog10, Flush, SetFeatures, ReadLog, ReadPio, WritePio, Verify, Trim, Control}
use Rattle.locking.specs.declared.range.Op.TheVariants.{Read}
use Rattle.locking.specs.declared.ranges.Verdict.{Verdict}
use Rattle.locking.specs.declared.ranges.Verdict.TheVariants.{Serve, Shadow, Denied}
use Rattle.history.specs.Events.{CompletedWrite, Deed, InSession, OfQueue, Wrote, Trimmed, Event, or_else, latest}
use Rattle.sessions.specs.Deeds.{erased_by}
use Rattle.shadow_mbr.specs.Erasure.{is_erased}
use Rattle.history.specs.Readers.{part_of, writing, sector}
use Rattle.history.specs.Facts.{Facts}
use Rattle.history.specs.Decisions.{verdict_on, discovery_com_id, asks_certificates, asks_stack}
use Rattle.history.specs.Answers.{read_by, held_data}
use Rattle.history.specs.Tcg.{received_bytes, receive_data, certificates_or, stack_or, data_of}
use Rattle.port_history.specs.Requests.{bytes_moved}

-- sectors
abbrev IsSector : Option (List ℕ) → Type 0
IsSector None = Unit {0}
IsSector (Some bytes) = length bytes ≡ 512

length-zeros : length zeros ≡ 512
unfolding zeros
length-zeros = length-replicate {A = ℕ} 512 0

part-long : (place lba : ℕ) (bytes : List ℕ)
    → (nat_le lba place && nat_lt place (lba + length bytes / 512)) ≡ true
    → 512 ≤ length bytes - 512 * (place - lba)
part-long place lba bytes is =
    let from : lba ≤ place = grind (arith, nat_tests) in
    let below : place < lba + length bytes / 512 = grind (arith, nat_tests) in
    omega (arith, from, below)

part-is : (place lba : ℕ) (bytes : List ℕ) → IsSector (part_of place lba bytes)
part-is place lba bytes =
    by_test (nat_le lba place && nat_lt place (lba + length bytes / 512)) refl
  where
    by_test : (b : Bool)
        → (nat_le lba place && nat_lt place (lba + length bytes / 512)) ≡ b
        → IsSector (if b then Some (take 512 (drop (512 * (place - lba)) bytes)) else None)
    by_test false is = tt
    by_test true is =
        let rest : length (drop (512 * (place - lba)) bytes) ≡ length bytes - 512 * (place - lba)
        = length-drop (512 * (place - lba)) bytes in
        length-take-le 512 (drop (512 * (place - lba)) bytes)
        (omega (arith, rest, part-long place lba bytes is))

erasing-is : (b : Bool) → IsSector (if b then Some zeros else None)
erasing-is true = length-zeros
erasing-is false = tt

writing-is : (place : ℕ) (d : Deed) → IsSector (writing place d)
writing-is place (OfQueue (CompletedWrite tag lba bytes)) = part-is place lba bytes
writing-is place (Wrote lba bytes) = part-is place lba bytes
writing-is place (Trimmed extents) = erasing-is (list_any (has_sector place) extents)
writing-is place (InSession deed response) = erasing-is (is_erased (erased_by deed) place)
writing-is place _ = tt

or-is : (x y : Option (List ℕ)) → IsSector x → IsSector y → IsSector (or_else x y)
or-is None y h g = g
or-is (Some bytes) y h g = h

latest-is : (place : ℕ) (past : List Event) → IsSector (latest (writing place) past)
latest-is place [] = tt
latest-is place (event ∷ before) =
    or-is (writing place event.deed) (latest (writing place) before)
    (writing-is place event.deed) (latest-is place before)

else-zeros : (x : Option (List ℕ)) → IsSector x → length (unwrap_or x zeros) ≡ 512
else-zeros None h = length-zeros
else-zeros (Some bytes) h = h

-- Each sector has 512 bytes, after any events.
pub sector_length : (past : List Event) (place : ℕ) → length (sector past place) ≡ 512
sector_length past place = else-zeros (latest (writing place) past) (latest-is place past)

length-sectors : (holds : ℕ → List ℕ) (lba n : ℕ) → ((s : ℕ) → length (holds s) ≡ 512)
    → length (sectors_from holds lba n) ≡ 512 * n
unfolding sectors_from
length-sectors holds lba zero whole = refl
length-sectors holds lba (suc n) whole =
    omega (
      arith,
      length-append (holds lba) (sectors_from holds (lba + 1) n),
      whole lba,
      length-sectors holds (lba + 1) n whole,
    )

length-bytes : (holds : ℕ → ℕ) (place n : ℕ) → length (bytes_from holds place n) ≡ n
length-bytes holds place zero = refl
length-bytes holds place (suc n) = omega (arith, length-bytes holds (suc place) n)

-- what is cut, or filled with zeros
pub length-sized : (n : ℕ) (content : List ℕ) → length (sized n content) ≡ n
length-sized n content =
    omega (
      arith,
      length-append (take n content) (replicate (n - length content) 0),
      length-take n content,
      length-replicate {A = ℕ} (n - length content) 0,
    )

length-received : (f : Facts) (com_id room : ℕ) → length (receive_data f com_id room) ≡ room
length-received f com_id room =
    by_test (Rattle.std.specs.Prelude.nat_eq com_id discovery_com_id)
  where
    by_test : (b : Bool)
        → length (if b then sized room (discovery_of f.config.profile f.rows f.beside.block)
        else sized room (received_bytes com_id room (f.waiting com_id)))
        ≡ room
    by_test true = length-sized room (discovery_of f.config.profile f.rows f.beside.block)
    by_test false = length-sized room (received_bytes com_id room (f.waiting com_id))

length-certificates : (certificates : Bool) (f : Facts) (com_id room : ℕ)
    → length (certificates_or certificates f com_id room) ≡ room
length-certificates true f com_id room = length-sized room certificate_data
length-certificates false f com_id room = length-received f com_id room

length-told : (list stack : Bool) (f : Facts) (command : Command) (com_id room : ℕ)
    → length (if list then sized room protocol_list else stack_or stack f command com_id room) ≡ room
length-told true stack f command com_id room = length-sized room protocol_list
length-told false true f command com_id room =
    length-sized room (stack_answer com_id (channel_of f.beside com_id).was_reset)
length-told false false f command com_id room =
    length-certificates (asks_certificates f.config.profile command) f com_id room

length-identity : (sectors : ℕ) → length (identity sectors) ≡ 512
length-identity sectors =
    length-words (identify_word sectors) (run_from 0 256)
    ∙ ap (λ (n : ℕ). 2 * n) (length-run 0 256)

length-field : (config : Config) (settings : Settings) → length (field_identity config settings) ≡ 512
length-field config settings =
    length-words (field_word config settings) (run_from 0 256)
    ∙ ap (λ (n : ℕ). 2 * n) (length-run 0 256)

length-known : (p : Profile) (config : Config) (settings : Settings) → length (identity_in p config settings) ≡ 512
length-known Base config settings = length-identity config.sectors
length-known Field config settings = length-field config settings
length-known Opal config settings = opal_length config settings

-- each page has 512 bytes
length-page : (config : Config) (settings : Settings) (page : ℕ) → length (identify_page config settings page) ≡ 512
length-page config settings page =
    by_tests (Rattle.std.specs.Prelude.nat_eq page 0) (Rattle.std.specs.Prelude.nat_eq page 1) (Rattle.std.specs.Prelude.nat_eq page 6)
  where
    by_tests : (a b c : Bool)
        → length (if a then sized 512 page_list_head
        else (if b then identity_of config settings
        else (if c then sized 512 security_head else sized 512 (page_head_of page))))
        ≡ 512
    by_tests true b c = length-sized 512 page_list_head
    by_tests false true c = length-known config.profile config settings
    by_tests false false true = length-sized 512 security_head
    by_tests false false false = length-sized 512 (page_head_of page)

length-pages : (config : Config) (settings : Settings) (first n : ℕ)
    → length (flat_map (identify_page config settings) (run_from first n)) ≡ 512 * n
length-pages config settings first zero = refl
length-pages config settings first (suc n) =
    omega (
      arith,
      length-append (identify_page config settings first) (flat_map (identify_page config settings) (run_from (suc first) n)),
      length-page config settings first,
      length-pages config settings (suc first) n,
    )

length-device_log : (config : Config) (settings : Settings) (pages : LogPages)
    → length (device_log config settings pages) ≡ 512 * pages_asked pages
length-device_log config settings Directory = length-sized 512 directory_head
length-device_log config settings (IdentifyData first count) = length-pages config settings first count

length-one : (xs : List ℕ) (last : ℕ) → length xs ≡ 511 → length (xs ++ last ∷ []) ≡ 512
length-one xs last e = omega (arith, length-append xs (last ∷ []), e)

pub length-log : (failure : Option Failure) → length (error_log failure) ≡ 512
length-log failure =
    length-one (sized 511 (page_head failure)) _ (length-sized 511 (page_head failure))

-- What a read gives is no more than it asks for.
pub read-fits : (f : Facts) (lba count : ℕ) (v : Verdict)
    → ((s : ℕ) → length (f.sector s) ≡ 512)
    → length (read_by f lba count v) ≤ 512 * count
read-fits f lba count Serve whole = omega (arith, length-sectors f.sector lba count whole)
read-fits f lba count Shadow whole = omega (arith, length-bytes f.byte (512 * lba) (512 * count))
read-fits f lba count (Denied why) whole = omega arith

pub data-fits : (f : Facts) (command : Command) → ((s : ℕ) → length (f.sector s) ≡ 512)
    → length (data_of f command) ≤ bytes_moved command
data-fits f (ReadQueued lba count) whole = omega arith
data-fits f (WriteQueued lba count) whole = omega arith
data-fits f (ReadDma lba count) whole = read-fits f lba count (verdict_on f Read lba count) whole
data-fits f (WriteDma lba count) whole = omega arith
data-fits f (Send protocol com_id blocks dma) whole = omega arith
data-fits f (Receive protocol com_id blocks dma) whole =
    omega (
      arith,
      length-told (is_protocol_list (Receive protocol com_id blocks dma))
          (asks_stack f.config.profile protocol com_id blocks) f (Receive protocol com_id blocks dma) com_id
          (512 * blocks),
    )
data-fits f Identify whole = omega (arith, length-known f.config.profile f.config f.settings)
data-fits f (ReadLog10 dma) whole = omega (arith, length-log f.failure)
data-fits f Flush whole = omega arith
data-fits f (SetFeatures feature) whole = omega arith
data-fits f (ReadLog pages dma) whole = omega (arith, length-device_log f.config f.settings pages)
data-fits f (ReadPio lba count) whole = read-fits f lba count (verdict_on f Read lba count) whole
data-fits f (WritePio lba count) whole = omega arith
data-fits f (Verify lba count) whole = omega arith
data-fits f (Trim blocks) whole = omega arith
data-fits f (Control control) whole = omega arith

pub held-fits : (f : Facts) (command : Command) (v : Verdict)
    → ((s : ℕ) → length (f.sector s) ≡ 512)
    → length (held_data f (record { command = command; verdict = v })) ≤ bytes_moved command
held-fits f (ReadQueued lba count) v whole = read-fits f lba count v whole
held-fits f (WriteQueued lba count) v whole = omega arith
held-fits f (ReadDma lba count) v whole = omega arith
held-fits f (WriteDma lba count) v whole = omega arith
held-fits f (Send protocol com_id blocks dma) v whole = omega arith
held-fits f (Receive protocol com_id blocks dma) v whole = omega arith
held-fits f Identify v whole = omega arith
held-fits f (ReadLog10 dma) v whole = omega arith
held-fits f Flush v whole = omega arith
held-fits f (SetFeatures feature) v whole = omega arith
held-fits f (ReadLog page dma) v whole = omega arith
held-fits f (ReadPio lba count) v whole = omega arith
held-fits f (WritePio lba count) v whole = omega arith
held-fits f (Verify lba count) v whole = omega arith
held-fits f (Trim blocks) v whole = omega arith
held-fits f (Control control) v whole = omega arith
