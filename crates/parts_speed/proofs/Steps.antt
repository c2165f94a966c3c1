-- Laws of parts laid one after the other into one buffer: the first of them and the rest.
use Rattle.std.proofs.Common.{◌≡◌, ℕ, zero, suc, ◌+◌, ◌%◌, ◌^◌, Bool, true, false, List, length, sym, refl, ap, ◌∙◌, ap₂}
use Rattle.sound.specs.Sound.{SoundLink}
use Rattle.parts.specs.declared.PartRun.{PartRun}
use Rattle.parts.specs.Part.{Partway, part_of, counted, Parts}
use Rattle.parts_speed.specs.Laid.{Laid, laid_more, laid_on}

abbrev pub laid_by : ℕ → List ℕ → Laid
laid_by bytes buffer = record { bytes = bytes; buffer = buffer }

-- a run that has ended lays nothing
pub laid_end : (n : ℕ) (input : List ℕ) (r : PartRun) (s : Laid) → r.more ≡ false → laid_on n input r s ≡ s
unfolding laid_on
laid_end zero input r s e = refl
laid_end (suc n) input r s e = rw e refl

pub laid_none : (input : List ℕ) (r : PartRun) (s : Laid) → laid_on 0 input r s ≡ s
unfolding laid_on
laid_none input r s = refl

laid_suc : (n : ℕ) (input : List ℕ) (r : PartRun) (s : Laid) → r.more ≡ true
    → let p = part_of true r.link input r.place (length s.buffer) in
    laid_on (suc n) input r s ≡ laid_on n input (counted p) (laid_more p s)
unfolding laid_on
laid_suc n input r s e = rw e refl

-- one that goes on lays a part, and then the others
pub laid_on_lem : (n : ℕ) (input : List ℕ) (r r' : PartRun) (bytes bytes' : ℕ) (before after : List ℕ) → r.more ≡ true → SoundLink r.link
    → Parts r.link input r.place before r' after → bytes' ≡ (bytes + r'.laid) % 2 ^ 64
    → laid_on (suc n) input r (laid_by bytes before) ≡ laid_on n input r' (laid_by bytes' after)
laid_on_lem n input r r' bytes bytes' before after on sound x adds =
    let told = x.exactly.complete sound in
    let same : part_of x.sound r.link input r.place (length before) ≡ part_of true r.link input r.place (length before) =
    ap (λ (b : Bool). part_of b r.link input r.place (length before)) told in
    let is = x.answer ∙ ap counted same in
    let lies = x.lays ∙ ap (λ (p : Partway). (laid_more p (laid_by bytes before)).buffer) same in
    let many : bytes' ≡ (laid_more (part_of true r.link input r.place (length before)) (laid_by bytes before)).bytes =
    adds ∙ ap (λ (q : PartRun). (bytes + q.laid) % 2 ^ 64) is in
    laid_suc n input r (laid_by bytes before) on ∙ sym (ap₂ (laid_on n input) is (ap₂ laid_by many lies))
