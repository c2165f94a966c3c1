-- What each exported call says, for any bytes and any numbers in the caller's arrays: what the library says of the link that lies in them,
-- as numbers (R346 to R348, R350, R351). Demands 1 to 3.
use Rattle.std.specs.Prelude.{Bool, cond, List, ◌≡◌, ℕ}
use Rattle.checks.specs.Check.{Exactly, number_of}
use Rattle.plan.specs.Reader.{plan_of}
use Rattle.state.specs.declared.Link.{Link}
use Rattle.sound.specs.Sound.{SoundLink}
use Rattle.calls.specs.declared.AfterFresh.{AfterFresh}
use Rattle.calls.specs.declared.Arrival.{Arrival}
use Rattle.calls.specs.declared.Departure.{Departure}
use Rattle.calls.specs.Fresh.{MakesFresh}
use Rattle.calls.specs.Arrival.{Arrives, arrival_leaves}
use Rattle.calls.specs.Send.{Sends, send_leaves}
use Rattle.calls.specs.Run.{arrival, send, made}
use Rattle.offered.specs.declared.Offered.{Offered}
use Rattle.offered.specs.Offer.{Offers}
use Rattle.reasons.specs.Answer.{Silence}
use Rattle.reasons.specs.Answer.{told_verdict, SaysWhy}
use Rattle.answers.specs.Reply.{reply_to, row_of}
use Rattle.page_calls.specs.Kept.{said_of}
use Rattle.cometbanjo.specs.Numbers.{met_length, packet_of, offer_said, why_said}

-- a plan is read: its refusal and the bytes used; and the link in the arrays is then the fresh link of its tree, of a plan that is refused
-- the link without classes (R347)
pub record CallOpens (input : List ℕ) (number : ℕ) (said : List ℕ) (after : Link) : Type 0 where
  pub made : AfterFresh
  pub rules : MakesFresh (plan_of input).tree made
  pub link : after ≡ made.link
  pub answers : number ≡ number_of (plan_of input).verdict
  pub verdict : said ≡ said_of (plan_of input).verdict (plan_of input).used

-- an arrival: the library's on the link in the arrays, its answer as eight numbers (R346, R348)
pub record CallArrives (l : Link) (class length tag number : ℕ) (row : List ℕ) (after : Link) : Type 0 where
  pub answer : Arrival
  pub rules : Arrives l class (packet_of length tag) (arrival_leaves answer after)
  pub answers : number ≡ number_of answer.verdict
  pub numbers : row ≡ row_of (reply_to (made (arrival class (packet_of length tag)) answer after))

-- a send (R346)
pub record CallSends (l : Link) (number : ℕ) (row : List ℕ) (after : Link) : Type 0 where
  pub answer : Departure
  pub rules : Sends l (send_leaves answer after)
  pub answers : number ≡ number_of answer.verdict
  pub numbers : row ≡ row_of (reply_to (made send answer after))

-- whether the link in the arrays is sound, whatever its tags and its marks are: 0 or 11 (R350)
pub record CallTotals (l : List ℕ → List ℕ → Link) (number : ℕ) : Type 0 where
  pub sound : Bool
  pub exactly : (tags marks : List ℕ) → Exactly sound (SoundLink (l tags marks))
  pub answers : number ≡ cond sound 0 11

-- what a packet would be promised if it came now (R348, R351)
pub record CallOffers (l : Link) (class length number : ℕ) (said : List ℕ) : Type 0 where
  pub answer : Offered
  pub rules : Offers l class (met_length length) answer
  pub answers : number ≡ number_of answer.verdict
  pub numbers : said ≡ offer_said answer

-- why a class is silent (R351)
pub record CallWhy (l : Link) (class number : ℕ) (said : List ℕ) : Type 0 where
  pub answer : Silence
  pub rules : SaysWhy l class answer
  pub answers : number ≡ number_of (told_verdict answer)
  pub numbers : said ≡ why_said answer
