-- The values that `count` and `counted` pass, the counts and the counter: the row and the machine value of each, that this is of its type, and that the value is owned for nothing.
-- Assumes nothing.
use seplogic.Ra.Ura.{Ura}
use mir.Val.{Val}
use types.Logic.{Logic}
use denote.RattleType.{RattleType}
use denote.Laws.{Is, Lawful, Makes}
use denote.Struct.Laws as LL
use denote.Enum.Laws as EL
use Rattle.reconstructor_counts.specs.declared.MessageCounts.{MessageCounts}
use Rattle.reconstructor_counts.specs.declared.Counter.{Counter}
use Rattle.reconstructor_counts.specs.contracts.MessageCounts as T
use Rattle.reconstructor_counts.proofs.MessageCounts.TheLaws as T'
use Rattle.reconstructor_counts.specs.contracts.Counter as E
use Rattle.reconstructor_counts.proofs.Counter.TheLaws as E'

abbrev pub R : RattleType
R = T.the_row

abbrev pub K : RattleType
K = E.the_row

abbrev pub counts_val : MessageCounts → Val
counts_val = LL.val T.the_type T'.the_laws

abbrev pub counter_val : Counter → Val
counter_val = EL.val E.the_type E'.the_laws

module _ {M : Type 1} {𝓤 : Ura M} (𝓛 : Logic 𝓤) where
  pub counts-made : Makes 𝓛 R (Is R)
  counts-made = LL.makes T.the_type T'.the_plain 𝓛

  pub counter-made : Makes 𝓛 K (Is K)
  counter-made = EL.makes E.the_type E'.the_plain 𝓛

  pub counts_lawful : Lawful 𝓛 R
  counts_lawful = LL.lawful T.the_type T'.the_laws 𝓛

  pub counter_lawful : Lawful 𝓛 K
  counter_lawful = EL.lawful E.the_type E'.the_laws 𝓛 tt
