-- What the timed run by parts answers: the bytes of all parts, and what the one buffer holds after the last of them. No rule of its own.
use Rattle.std.specs.Prelude.{ℕ, zero, suc, ◌+◌, ◌%◌, ◌^◌, true, cond, List, ◌++◌, length, drop}
use Rattle.run.specs.declared.Step.{Step}
use Rattle.parts.specs.declared.PartRun.{PartRun}
use Rattle.parts.specs.Part.{Partway, part_of, counted}

-- the bytes laid so far, as a 64-bit number, and the buffer
pub record Laid : Type 0 where
  pub bytes : ℕ
  pub buffer : List ℕ

-- a part more: it is counted, and its text stands at the buffer's start
abbrev pub laid_more : Partway → Laid → Laid
laid_more p s = record {
  bytes = (s.bytes + length p.text) % 2 ^ 64;
  buffer = p.text ++ drop (length p.text) s.buffer;
}

-- so many parts at most, as long as the run goes on
unfoldable pub laid_on : ℕ → List ℕ → PartRun → Laid → Laid
laid_on zero input r s = s
laid_on (suc n) input r s =
    let p = part_of true r.link input r.place (length s.buffer) in
    cond r.more (laid_on n input (counted p) (laid_more p s)) s

-- from the first step of a run on
abbrev pub laid_in : ℕ → List ℕ → Step → List ℕ → Laid
laid_in n input s buffer =
    laid_on n input (record { laid = 0; more = s.more; link = s.link; place = s.place }) (record { bytes = 0; buffer = buffer })
