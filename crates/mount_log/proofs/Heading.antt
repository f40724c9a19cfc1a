-- The head at a place is that of the event there.
use Rattle.std.proofs.Common.{◌≡◌, ℕ, zero, suc, List, [], ◌∷◌, Some, refl, ◌∙◌, sym, ap}
use Rattle.std.specs.Prelude.{slice_get}
use Rattle.std.specs.Option.{option_map}
use Rattle.mount_log.specs.declared.logs.HubEvent.{HubEvent}
use Rattle.mount_log.specs.declared.heads.Head.{Head}
use Rattle.mount_log.proofs.Items.{some_is}
use Rattle.mount_log.specs.Heads.{head_of, heads_of}

head_there_in : (events : List HubEvent) (k : ℕ) → slice_get (heads_of events) k ≡ option_map head_of (slice_get events k)
head_there_in [] k = refl
head_there_in (e ∷ es) zero = refl
head_there_in (e ∷ es) (suc k) = head_there_in es k

-- where these are the heads of the events
pub head_there : (heads : List Head) (events : List HubEvent) (k : ℕ) → heads ≡ heads_of events → slice_get heads k ≡ option_map head_of (slice_get events k)
head_there heads events k are = ap (λ (hs : List Head). slice_get hs k) are ∙ head_there_in events k

-- the head at the place of an event
pub head_is : (heads : List Head) (events : List HubEvent) (k : ℕ) (e : HubEvent) (h : Head)
    → heads ≡ heads_of events → slice_get events k ≡ Some e → slice_get heads k ≡ Some h → h ≡ head_of e
head_is heads events k e h are event head =
    let both : Some h ≡ Some (head_of e) = sym head ∙ head_there heads events k are ∙ ap (option_map head_of) event in
    some_is h (head_of e) both
