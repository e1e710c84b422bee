-- Messages that the two ends give: right length, kind and zero bytes; and what a call left at the start of its output is the message that it
-- gave. Assumes nothing.
use mathlib.Core.Path.{◌≡◌, refl}
use mathlib.Core.List.{List}
use Prim.Native.Nat.{ℕ, ◌≤◌}
use native.Mathlib.Omega.{arith}
use lib.ListN.{length, take, get_or}
use Rattle.model.specs.Bits.{Bytes}
use Rattle.ends.specs.Records.{Write, Report}
use Rattle.ternary.specs.Sizes.{key_size}
use Rattle.buffers.specs.Parts.{splice}
use Rattle.buffers.proofs.PartLaws.{part-of-splice}
use Rattle.buffers.proofs.ByteLaws.{byte_more, byte-none, append-bytes, to_be-bytes}
use Rattle.records.specs.Layout.{write_kind, write_size, is_write, report_kind, report_zero, report_size, is_report}
use Rattle.checks.specs.Flaws.{Zeros, write_spares}
use Rattle.end_records.specs.Writes.{decode_write, encode_write, WriteFits}
use Rattle.end_records.specs.Reports.{decode_report, encode_report, ReportFits}
use Rattle.end_records.proofs.WriteLaws.{decode-encode-write, length-encode-write, spares-encode-write}
use Rattle.end_records.proofs.ReportLaws.{decode-encode-report}

-- ---- writes

-- a write's bytes as an end gives them
pub record WriteBytes (m : List ℕ) : Type 0 where
  pub long : length m ≡ write_size key_size
  pub kind : get_or m write_kind 0 ≡ is_write
  pub zeros : Zeros (write_spares key_size) m
  pub bytes : Bytes m

-- a write that bytes can hold
pub record ByteWrite (x : Write) : Type 0 where
  pub fits : WriteFits key_size x
  pub value-bytes : Bytes x.value
  pub mask-bytes : Bytes x.mask

module _ (x : Write) (b : ByteWrite x) where
  pub encoded-write : WriteBytes (encode_write x)
  unfolding encode_write
  encoded-write =
      let z = spares-encode-write key_size x b.fits in
      record {
        long = length-encode-write key_size x b.fits;
        kind = refl;
        zeros = (refl, (z.0, (z.1, tt)));
        bytes = byte_more (omega arith) (byte_more (omega arith)
            (append-bytes _ _ (to_be-bytes 2 x.slot)
            (append-bytes _ _ (to_be-bytes 4 x.sequence)
            (append-bytes _ _ b.value-bytes
            (append-bytes _ _ b.mask-bytes
            (append-bytes _ _ (to_be-bytes 2 x.action)
            (append-bytes _ _ (to_be-bytes 2 x.rule) (byte_more (omega arith) (byte_more (omega arith) byte-none)))))))));
      }

  -- the first bytes of the output are the write
  pub given-write : (out : List ℕ) → write_size key_size ≤ length out → take (write_size key_size) (splice 0 (encode_write x) out) ≡ encode_write x
  given-write out room =
      let n = length-encode-write key_size x b.fits in
      part-of-splice 0 (encode_write x) out (omega (arith, n)) (write_size key_size) n

  pub meant-write : decode_write key_size (encode_write x) ≡ x
  meant-write = decode-encode-write key_size x b.fits

-- ---- reports

pub record ReportBytes (m : List ℕ) : Type 0 where
  pub long : length m ≡ report_size
  pub kind : get_or m report_kind 0 ≡ is_report
  pub zeroed : get_or m report_zero 0 ≡ 0
  pub bytes : Bytes m

module _ (x : Report) where
  pub encoded-report : ReportBytes (encode_report x)
  unfolding encode_report
  encoded-report =
      record {
        long = refl;
        kind = refl;
        zeroed = refl;
        bytes = byte_more (omega arith) (byte_more (omega arith)
            (append-bytes _ _ (to_be-bytes 2 x.slot) (append-bytes _ _ (to_be-bytes 4 x.sequence) (to_be-bytes 4 x.hits))));
      }

  pub given-report : (out : List ℕ) → report_size ≤ length out → take report_size (splice 0 (encode_report x) out) ≡ encode_report x
  given-report out room =
      let n = encoded-report.long in
      part-of-splice 0 (encode_report x) out (omega (arith, n)) report_size n

  pub meant-report : ReportFits x → decode_report (encode_report x) ≡ x
  meant-report f = decode-encode-report x f
