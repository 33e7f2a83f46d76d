-- Which answers say that a call was out of memory, and which show an alert.
use Rattle.std.specs.Prelude.{Bool, true, false}
use Rattle.am_alert.specs.declared.post.PostFault.TheVariants as post_fault
use Rattle.am_store.specs.declared.faults.BodyFault.TheVariants.{Unread, Put}
use Rattle.am_store.specs.declared.faults.PutFault.TheVariants as put_fault
use Rattle.am_store.specs.declared.faults.SubFault.TheVariants as sub_fault
use Rattle.am_answers.specs.declared.answer.Answer.{Answer}
use Rattle.am_answers.specs.declared.answer.Answer.TheVariants as answer

-- whether the answer is printed with `E0 NoMemory`
abbrev pub is_out_of_memory : Answer → Bool
is_out_of_memory (answer.PostRefused (Unread post_fault.NoMemory)) = true
is_out_of_memory (answer.PostRefused (Put put_fault.NoMemory)) = true
is_out_of_memory (answer.SubscribeRefused sub_fault.NoMemory) = true
is_out_of_memory (answer.OutOfMemory word) = true
is_out_of_memory _ = false

-- whether the answer is an item, after which a subscription may show more
abbrev pub is_item : Answer → Bool
is_item (answer.Item alert) = true
is_item _ = false
