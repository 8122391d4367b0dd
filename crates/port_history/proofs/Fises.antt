-- The bytes of the FISes that the port sends, and what the drive reads in them.
use Rattle.basics.specs.declared.profile.Profile.TheVariants.{Base, Field, Opal}
use Rattle.basics.specs.declared.profile.Profile.{Profile}
use Rattle.trusted_cmds.specs.Profiles.{payload_length_in, field_payload_length, short_write_dma}
use Rattle.trusted_cmds.specs.General.{is_general, brings_more, blocks_brought}
use Rattle.sp_cells.specs.Config.{Config}
use Rattle.port_history.specs.Laws.{is_of_request, read_as, IsSized}
use Rattle.std.proofs.Common.{◌≡◌, ◌∙◌, ◌+◌, ◌*◌, ◌/◌, ◌%◌, ◌^◌, ◌<◌, ◌≤◌, ◌==◌, ℕ, true, false, List, [], ◌∷◌, length, slice_index, if◌then◌else◌, None, refl, ap, arith, inl, inr, cond, Bool, sym}
use Rattle.std.specs.Prelude.{Ok}
use Rattle.std.proofs.lemmas.Bool.{cases_eq, ne_eqb}
use Rattle.std.proofs.Math.Nat.{mod-add-div}
use Rattle.fis.specs.H2d.{h2d_at, IsH2dSpelling}
use Rattle.fis.specs.declared.h2d.RegH2d.{RegH2d}
use Rattle.trusted_cmds.specs.declared.command.Command.{Command}
use Rattle.trusted_cmds.specs.declared.command.Command.TheVariants.{ReadQueued, WriteQueued, ReadDma, WriteDma, Send, Receive, Identify, ReadLog10, Flush, SetFeatures, ReadLog, ReadPio, WritePio, Verify, Trim, Control}
use Rattle.trusted_cmds.specs.Commands.{reading, fis_with, fis_of, tag_with, payload_length, sectors, sectors_field, most_sectors, sector_size, short_sectors}
use Rattle.history.specs.Answers.{payload_of}
use Rattle.history.proofs.Payloads.{payload-of-command}
use Rattle.port_history.specs.Requests.{fis_bytes, command_fis, log_fis, to_device, bytes_moved}
use Rattle.port_history.specs.Stages.{is_queued_command}

-- a list of 20 bytes
listed : (xs : List ℕ) → length xs ≡ 20
    → xs ≡ slice_index xs 0 ∷ slice_index xs 1 ∷ slice_index xs 2 ∷ slice_index xs 3
    ∷ slice_index xs 4 ∷ slice_index xs 5 ∷ slice_index xs 6 ∷ slice_index xs 7
    ∷ slice_index xs 8 ∷ slice_index xs 9 ∷ slice_index xs 10 ∷ slice_index xs 11
    ∷ slice_index xs 12 ∷ slice_index xs 13 ∷ slice_index xs 14 ∷ slice_index xs 15
    ∷ slice_index xs 16 ∷ slice_index xs 17 ∷ slice_index xs 18 ∷ slice_index xs 19 ∷ []
listed (a ∷ b ∷ c ∷ d ∷ e ∷ f ∷ g ∷ h ∷ i ∷ j ∷ k ∷ l ∷ m ∷ n ∷ o ∷ p ∷ q ∷ r ∷ s ∷ t
    ∷ []) size = refl
listed _ size = absurd (omega (arith, size))

two_bytes : (a b n : ℕ) → a < 256 → b < 256 → a + 256 * b ≡ n → (a ≡ n % 256) × (b ≡ n / 256)
two_bytes a b n la lb e = (omega (arith, e), omega (arith, e))

record SixBytes (a b c d e f n : ℕ) : Type 0 where
  zeroth : a ≡ n % 256
  first : b ≡ n / 256 % 256
  second : c ≡ n / 256 / 256 % 256
  third : d ≡ n / 256 / 256 / 256 % 256
  fourth : e ≡ n / 256 / 256 / 256 / 256 % 256
  fifth : f ≡ n / 256 / 256 / 256 / 256 / 256

six_bytes : (a b c d e f n : ℕ) → a < 256 → b < 256 → c < 256 → d < 256 → e < 256 → f < 256
    → a + 256 * b + 256 ^ 2 * c + 256 ^ 3 * d + 256 ^ 4 * e + 256 ^ 5 * f ≡ n
    → SixBytes a b c d e f n
six_bytes a b c d e f n la lb lc ld le lf is = record {
  zeroth = omega (arith, is);
  first = omega (arith, is);
  second = omega (arith, is);
  third = omega (arith, is);
  fourth = omega (arith, is);
  fifth = omega (arith, is);
}

-- each is a byte
abbrev pub AreBytes : List ℕ → Type 0
AreBytes bytes = (k : ℕ) → slice_index bytes k < 256

-- What spells a FIS, as the writer does, is these bytes.
pub spelled : (h : RegH2d) (bytes : List ℕ) → IsH2dSpelling bytes h → length bytes ≡ 20
    → AreBytes bytes → bytes ≡ fis_bytes h
spelled h bytes s size small =
    let w = s.writing in
    let feature =
    two_bytes (slice_index bytes 3) (slice_index bytes 11) h.feature (small 3) (small 11)
    w.feature in
    let count =
    two_bytes (slice_index bytes 12) (slice_index bytes 13) h.count (small 12) (small 13)
    w.count in
    let lba =
    six_bytes (slice_index bytes 4) (slice_index bytes 5) (slice_index bytes 6)
    (slice_index bytes 8) (slice_index bytes 9) (slice_index bytes 10) h.lba (small 4)
    (small 5) (small 6) (small 8) (small 9) (small 10) w.lba in
    let clear = s.auxiliary in
    listed bytes size
    ∙ rw (
      w.kind,
      s.flags,
      w.command,
      feature.0,
      lba.zeroth,
      lba.first,
      lba.second,
      w.device,
      lba.third,
      lba.fourth,
      lba.fifth,
      feature.1,
      count.0,
      count.1,
      w.icc,
      w.control,
      clear.0,
      clear.1.0,
      clear.1.1.0,
      clear.1.1.1.0,
    ) refl

split-6 : (n : ℕ)
    → n % 256 + 256 * (n / 256 % 256) + 256 ^ 2 * (n / 256 / 256 % 256)
    + 256 ^ 3 * (n / 256 / 256 / 256 % 256) + 256 ^ 4 * (n / 256 / 256 / 256 / 256 % 256)
    + 256 ^ 5 * (n / 256 / 256 / 256 / 256 / 256) ≡ n
split-6 n = omega arith

with-back : (code feature lba device count : ℕ)
    → h2d_at (fis_bytes (fis_with code feature lba device count))
    ≡ fis_with code feature lba device count
with-back code feature lba device count =
    rw (mod-add-div feature 256, split-6 lba, mod-add-div count 256) refl

-- A command's FIS is read back from its bytes.
pub fis_back : (command : Command) (tag : ℕ)
    → h2d_at (fis_bytes (fis_of command tag)) ≡ fis_of command tag
fis_back (ReadQueued lba count) tag = with-back _ _ _ _ _
fis_back (WriteQueued lba count) tag = with-back _ _ _ _ _
fis_back (ReadDma lba count) tag = with-back _ _ _ _ _
fis_back (WriteDma lba count) tag = with-back _ _ _ _ _
fis_back (Send protocol com_id blocks dma) tag = with-back _ _ _ _ _
fis_back (Receive protocol com_id blocks dma) tag = with-back _ _ _ _ _
fis_back Identify tag = with-back _ _ _ _ _
fis_back (ReadLog10 dma) tag = with-back _ _ _ _ _
fis_back Flush tag = with-back _ _ _ _ _
fis_back (SetFeatures feature) tag = with-back _ _ _ _ _
fis_back (ReadLog page dma) tag = with-back _ _ _ _ _
fis_back (ReadPio lba count) tag = with-back _ _ _ _ _
fis_back (WritePio lba count) tag = with-back _ _ _ _ _
fis_back (Verify lba count) tag = with-back _ _ _ _ _
fis_back (Trim blocks) tag = with-back _ _ _ _ _
fis_back (Control control) tag = with-back _ _ _ _ _

-- a count of sectors, from its field
sectors-back : (count : ℕ) → 0 < count → count ≤ most_sectors
    → sectors (sectors_field count) ≡ count
sectors-back count some most = elim (cases_eq count 65536) [
  | inl same ↦ rw (same) refl
  | inr other ↦
      let none : (count == 0) ≡ false = ne_eqb count 0 (λ e. absurd (omega (arith, e, some))) in
      rw (ne_eqb count 65536 other, none) refl
]

tag-back : (tag : ℕ) → tag < 32 → 8 * tag / 8 % 32 ≡ tag
tag-back tag lt = omega arith

com_id-back : (blocks com_id : ℕ) → blocks ≤ 256 → (blocks / 256 + 256 * com_id) / 256 ≡ com_id
com_id-back blocks com_id most = omega arith

blocks-back : (blocks com_id : ℕ) → blocks ≤ 256
    → blocks % 256 % 256 + 256 * ((blocks / 256 + 256 * com_id) % 256) ≡ blocks
blocks-back blocks com_id most = omega arith

unasked : false ≡ true → ⊥
unasked h = cc

-- The drive reads the command, and the tag of a queued one.
pub reads : (command : Command) (tag : ℕ) → tag < 32 → IsSized command
    → reading (fis_of command tag) ≡ Ok (read_as command, tag_with command tag)
reads (ReadQueued lba count) tag lt sized =
    rw (sectors-back count sized.counted.0 sized.counted.1, tag-back tag lt) refl
reads (WriteQueued lba count) tag lt sized =
    rw (sectors-back count sized.counted.0 sized.counted.1, tag-back tag lt) refl
reads (ReadDma lba count) tag lt sized =
    rw (sectors-back count sized.counted.0 sized.counted.1) refl
reads (WriteDma lba count) tag lt sized =
    rw (sectors-back count sized.counted.0 sized.counted.1) refl
reads (Send protocol com_id blocks true) tag lt sized =
    rw (com_id-back blocks com_id sized.most, blocks-back blocks com_id sized.most) refl
reads (Send protocol com_id blocks false) tag lt sized =
    rw (com_id-back blocks com_id sized.most, blocks-back blocks com_id sized.most) refl
reads (Receive protocol com_id blocks true) tag lt sized =
    rw (com_id-back blocks com_id sized.most, blocks-back blocks com_id sized.most) refl
reads (Receive protocol com_id blocks false) tag lt sized =
    rw (com_id-back blocks com_id sized.most, blocks-back blocks com_id sized.most) refl
reads Identify tag lt sized = refl
reads (ReadLog10 true) tag lt sized = refl
reads (ReadLog10 false) tag lt sized = refl
reads Flush tag lt sized = refl
reads (SetFeatures feature) tag lt sized = absurd (unasked sized.asked)
reads (ReadLog page dma) tag lt sized = absurd (unasked sized.asked)
reads (ReadPio lba count) tag lt sized = absurd (unasked sized.asked)
reads (WritePio lba count) tag lt sized = absurd (unasked sized.asked)
reads (Verify lba count) tag lt sized = absurd (unasked sized.asked)
reads (Trim blocks) tag lt sized = absurd (unasked sized.asked)
reads (Control control) tag lt sized = absurd (unasked sized.asked)

pub read_as-queued : (command : Command) → is_queued_command (read_as command) ≡ is_queued_command command
read_as-queued (ReadQueued lba count) = refl
read_as-queued (WriteQueued lba count) = refl
read_as-queued (ReadDma lba count) = refl
read_as-queued (WriteDma lba count) = refl
read_as-queued (Send protocol com_id blocks dma) = refl
read_as-queued (Receive protocol com_id blocks dma) = refl
read_as-queued Identify = refl
read_as-queued (ReadLog10 dma) = refl
read_as-queued Flush = refl
read_as-queued (SetFeatures feature) = refl
read_as-queued (ReadLog page dma) = refl
read_as-queued (ReadPio lba count) = refl
read_as-queued (WritePio lba count) = refl
read_as-queued (Verify lba count) = refl
read_as-queued (Trim blocks) = refl
read_as-queued (Control control) = refl

pub read_as-tag : (command : Command) (tag : ℕ)
    → tag_with (read_as command) tag ≡ tag_with command tag
read_as-tag (ReadQueued lba count) tag = refl
read_as-tag (WriteQueued lba count) tag = refl
read_as-tag (ReadDma lba count) tag = refl
read_as-tag (WriteDma lba count) tag = refl
read_as-tag (Send protocol com_id blocks dma) tag = refl
read_as-tag (Receive protocol com_id blocks dma) tag = refl
read_as-tag Identify tag = refl
read_as-tag (ReadLog10 dma) tag = refl
read_as-tag Flush tag = refl
read_as-tag (SetFeatures feature) tag = refl
read_as-tag (ReadLog page dma) tag = refl
read_as-tag (ReadPio lba count) tag = refl
read_as-tag (WritePio lba count) tag = refl
read_as-tag (Verify lba count) tag = refl
read_as-tag (Trim blocks) tag = refl
read_as-tag (Control control) tag = refl

-- How many bytes go to the device with a command.
abbrev pub brought : Command → ℕ
brought command = if to_device command then bytes_moved command else 0

-- A command of a request is none that the opal profile alone has.
not-general : (command : Command) → is_of_request command ≡ true → is_general command ≡ false
not-general (ReadQueued lba count) asked = refl
not-general (WriteQueued lba count) asked = refl
not-general (ReadDma lba count) asked = refl
not-general (WriteDma lba count) asked = refl
not-general (Send protocol com_id blocks dma) asked = refl
not-general (Receive protocol com_id blocks dma) asked = refl
not-general Identify asked = refl
not-general (ReadLog10 dma) asked = refl
not-general Flush asked = refl
not-general (SetFeatures feature) asked = refl
not-general (ReadLog page dma) asked = refl
not-general (ReadPio lba count) asked = absurd (unasked asked)
not-general (WritePio lba count) asked = absurd (unasked asked)
not-general (Verify lba count) asked = absurd (unasked asked)
not-general (Trim blocks) asked = absurd (unasked asked)
not-general (Control control) asked = absurd (unasked asked)

-- The FIS of a command that is none of those: no profile reads more data with it than another.
record HasOldCode (code : ℕ) : Type 0 where
  not_short : (code == short_write_dma) ≡ false
  not_more : brings_more code ≡ false

general : true ≡ false → ⊥
general h = cc

old-code : (command : Command) (tag : ℕ) → is_general command ≡ false
    → HasOldCode (fis_of command tag).command
old-code (ReadQueued lba count) tag none = record { not_short = refl; not_more = refl }
old-code (WriteQueued lba count) tag none = record { not_short = refl; not_more = refl }
old-code (ReadDma lba count) tag none = record { not_short = refl; not_more = refl }
old-code (WriteDma lba count) tag none = record { not_short = refl; not_more = refl }
old-code (Send protocol com_id blocks true) tag none = record { not_short = refl; not_more = refl }
old-code (Send protocol com_id blocks false) tag none = record { not_short = refl; not_more = refl }
old-code (Receive protocol com_id blocks true) tag none = record { not_short = refl; not_more = refl }
old-code (Receive protocol com_id blocks false) tag none = record { not_short = refl; not_more = refl }
old-code Identify tag none = record { not_short = refl; not_more = refl }
old-code (ReadLog10 true) tag none = record { not_short = refl; not_more = refl }
old-code (ReadLog10 false) tag none = record { not_short = refl; not_more = refl }
old-code Flush tag none = record { not_short = refl; not_more = refl }
old-code (SetFeatures feature) tag none = record { not_short = refl; not_more = refl }
old-code (ReadLog page true) tag none = record { not_short = refl; not_more = refl }
old-code (ReadLog page false) tag none = record { not_short = refl; not_more = refl }
old-code (ReadPio lba count) tag none = absurd (general none)
old-code (WritePio lba count) tag none = absurd (general none)
old-code (Verify lba count) tag none = absurd (general none)
old-code (Trim blocks) tag none = absurd (general none)
old-code (Control control) tag none = absurd (general none)

field-length : (command : Command) (tag : ℕ) → is_general command ≡ false
    → field_payload_length (fis_of command tag) ≡ payload_length (fis_of command tag)
field-length command tag none =
    ap
    (λ (b : Bool). cond b (sector_size * short_sectors (fis_of command tag)) (payload_length (fis_of command tag)))
    (old-code command tag none).not_short

pub any_profile : (p : Profile) (command : Command) (tag : ℕ) → is_general command ≡ false
    → payload_length_in p (fis_of command tag) ≡ payload_length (fis_of command tag)
any_profile Base command tag none = refl
any_profile Field command tag none = field-length command tag none
any_profile Opal command tag none =
    ap
    (λ (b : Bool). cond b (sector_size * blocks_brought (fis_of command tag)) (field_payload_length (fis_of command tag)))
    (old-code command tag none).not_more
    ∙ field-length command tag none

-- As many as its FIS asks for, where it is not queued.
plain-payload : (command : Command) (tag : ℕ) → IsSized command
    → payload_length (fis_of command tag) ≡ (if is_queued_command command then 0 else brought command)
plain-payload (ReadQueued lba count) tag sized = refl
plain-payload (WriteQueued lba count) tag sized = refl
plain-payload (ReadDma lba count) tag sized = refl
plain-payload (WriteDma lba count) tag sized =
    ap (λ (n : ℕ). sector_size * n) (sectors-back count sized.counted.0 sized.counted.1)
plain-payload (Send protocol com_id blocks true) tag sized =
    ap (λ (n : ℕ). sector_size * n) (blocks-back blocks com_id sized.most)
plain-payload (Send protocol com_id blocks false) tag sized =
    ap (λ (n : ℕ). sector_size * n) (blocks-back blocks com_id sized.most)
plain-payload (Receive protocol com_id blocks true) tag sized = refl
plain-payload (Receive protocol com_id blocks false) tag sized = refl
plain-payload Identify tag sized = refl
plain-payload (ReadLog10 true) tag sized = refl
plain-payload (ReadLog10 false) tag sized = refl
plain-payload Flush tag sized = refl
plain-payload (SetFeatures feature) tag sized = refl
plain-payload (ReadLog page true) tag sized = refl
plain-payload (ReadLog page false) tag sized = refl
plain-payload (ReadPio lba count) tag sized = absurd (unasked sized.asked)
plain-payload (WritePio lba count) tag sized = absurd (unasked sized.asked)
plain-payload (Verify lba count) tag sized = absurd (unasked sized.asked)
plain-payload (Trim blocks) tag sized = absurd (unasked sized.asked)
plain-payload (Control control) tag sized = absurd (unasked sized.asked)

pub payload_is : (p : Profile) (command : Command) (tag : ℕ) → IsSized command
    → payload_length_in p (fis_of command tag) ≡ (if is_queued_command command then 0 else brought command)
payload_is p command tag sized =
    any_profile p command tag (not-general command sized.asked) ∙ plain-payload command tag sized

-- and its bytes as many as the FIS itself
pub fis_brings : (config : Config) (command : Command) (tag : ℕ)
    → payload_of config (command_fis command tag) ≡ payload_length_in config.profile (fis_of command tag)
fis_brings config command tag =
    payload-of-command config (command_fis command tag) refl
    ∙ ap (payload_length_in config.profile) (fis_back command tag)
