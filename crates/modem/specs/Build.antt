-- The burst builders from C: the burst goes into lent bytes (01, "Refusals", "Burst bits"; 02, point 1). Definitions only.
use Rattle.std.specs.Prelude.{cond, List, ℕ, zero, suc, Result, Ok, Err}
use Rattle.dsp_types.specs.declared.refusals.Refusal.{Refusal}
use Rattle.dsp_types.specs.Refusals.{accepted, bad_length, wrong_length}
use Rattle.slotter.specs.Bursts.{BuilderReply}
use Rattle.slotter.specs.Uplink.{UplinkReply, uplink_number, uplink_bits}

-- 01, "Refusals": 3 where the lent bytes are not n, else the builder's own number, 0 or 3 to 5
unfoldable pub lend_refusal : (n number : ℕ) → List ℕ → ℕ
lend_refusal n number bits = cond (wrong_length n bits) bad_length number

-- 01, "Refusals": a refusal changes nothing
unfoldable pub lent_unless : ℕ → List ℕ → List ℕ → List ℕ
lent_unless zero after before = after
lent_unless (suc n) after before = before

-- the lent bytes after a builder's answer of n bits: the burst, or as they were
unfoldable pub lent_answer : ℕ → Result (List ℕ) Refusal → List ℕ → List ℕ
lent_answer n (Ok burst) bits = lent_unless (lend_refusal n accepted bits) burst bits
lent_answer n (Err r) bits = bits

-- ---- a downlink burst: 510 lent bytes

unfoldable pub build_refusal : BuilderReply → List ℕ → ℕ
build_refusal burst bits = lend_refusal 510 burst.number bits

-- 01, "Burst bits": the lent bytes after a call: the burst, or as they were
unfoldable pub lent_burst : BuilderReply → List ℕ → List ℕ
lent_burst burst bits = lent_unless (build_refusal burst bits) burst.bits bits

-- ---- an uplink burst of n bits: n lent bytes

unfoldable pub uplink_refusal : ℕ → UplinkReply → List ℕ → ℕ
uplink_refusal n burst bits = lend_refusal n (uplink_number burst) bits

-- 02, point 1: the lent bytes after a call: the burst, or as they were
unfoldable pub lent_uplink : ℕ → UplinkReply → List ℕ → List ℕ
lent_uplink n burst bits = lent_unless (uplink_refusal n burst bits) (uplink_bits burst) bits
