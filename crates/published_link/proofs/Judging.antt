-- A link of the second engine is sound where the first engine's in it is and who has asked is right.
use mathlib.Core.Bool.{Bool}
use Rattle.checks.specs.Check.{Exactly}
use Rattle.sound.specs.Sound.{SoundLink}
use Rattle.published.specs.declared.Second.{Second}
use Rattle.published.specs.Second.{means, SoundSecond}
use Rattle.asking.specs.Right.{AskedRight}

module _ (l : Second) where
  pub both_sound : SoundLink l.link → AskedRight (means l) → SoundSecond l
  both_sound s a = record {
    state = record {
      state = s.state;
      parents = λ i u. (a.at i u).parent;
      pay = λ i u. (a.at i u).pay;
      behind = λ i u. (a.at i u).behind;
    };
    starts = s.starts;
  }

  pub link_sound : SoundSecond l → SoundLink l.link
  link_sound s = record { state = s.state.state; starts = s.starts }

  pub asked_sound : SoundSecond l → AskedRight (means l)
  asked_sound s = record {
    at = λ i u. record { parent = s.state.parents i u; pay = s.state.pay i u; behind = s.state.behind i u };
  }

  -- so where who has asked is right, the first engine's decision is this one's
  pub sound_by_link : (flag : Bool) → AskedRight (means l) → Exactly flag (SoundLink l.link) → Exactly flag (SoundSecond l)
  sound_by_link flag a e = record { sound = λ y. both_sound (e.sound y) a; complete = λ s. e.complete (link_sound s) }
