-- The words under which phases and refusals are printed.
use Rattle.std.specs.Prelude.{ℕ, List, codes}
use Rattle.market.specs.declared.phase.Phase as phase
use Rattle.market.specs.declared.phase.Phase.TheVariants.{Unopened, Evening, Morning, Session, PostSession}
use Rattle.market.specs.declared.refusal.Refusal.{Refusal}
use Rattle.market.specs.declared.refusal.Refusal.TheVariants as refusal

-- the word for a phase
abbrev pub phase_word : phase.Phase → List ℕ
phase_word Unopened = codes "unopened"
phase_word Evening = codes "evening"
phase_word Morning = codes "morning"
phase_word Session = codes "session"
phase_word PostSession = codes "post"

-- what a refusal means to a clerk
abbrev pub refusal_words : Refusal → List ℕ
refusal_words refusal.MemberCount = codes "a house has 1 to 64 members"
refusal_words refusal.Calendar = codes "the first year lies in 2020 to 2090, and there are 1 to 4 years"
refusal_words refusal.TableLength = codes "a lent table is too short or too long"
refusal_words refusal.HubRule = codes "the tax rate is at most 2500, and the share at most 10000"
refusal_words refusal.Phase = codes "the call is not taken in this phase"
refusal_words refusal.Member = codes "there is no such member"
refusal_words refusal.Contract = codes "there is no such contract"
refusal_words refusal.State = codes "the contract's state does not take the call"
refusal_words refusal.Cover = codes "the requirement would exceed the balance"
refusal_words refusal.BasePrice = codes "a price lies in 1 to 4000000, and a rate in 1 to 2000"
refusal_words refusal.PastInside = codes "a month or quarter inside it is delivering or ended"
refusal_words refusal.Vault = codes "the vault does not take this amount, or takes no more movements"
