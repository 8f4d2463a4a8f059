-- What a thread of a channel has of its node's book may go to another thread where its onions may: each part may.
use denote.RattleType.{RattleType}
use denote.Param.Send.{IsSend, IsSync, sendable}
use denote.Param.SendFields.{declared_send, declared_sync, as_row_send}
use Rattle.std.proofs.Crossing.{crosses}
use Rattle.std.specs.contracts.option.Option as Option
use Rattle.ln_forward.specs.contracts.checks.Policy as Policy
use Rattle.ln_book.proofs.book.Book.TheSendSync as book
use Rattle.ln_book.specs.contracts.switch.uses.Use as Use
use Rattle.ln_book.specs.contracts.switch.handle.BookHandle as BookHandle
use Rattle.ln_node.proofs.wakeups.ChannelWakeup.TheSendSync as own
use Rattle.ln_node.proofs.wakeups.Wakeups.TheSendSync as wakeups
use Rattle.ln_node.proofs.notices.Notices.TheSendSync as notices
use Rattle.ln_node.proofs.observer.Observer.TheSendSync as observer
use Rattle.ln_watch.proofs.watch.Watch.TheSendSync as watch
use Rattle.ln_node.proofs.peer.Peer.TheSendSync as peer
use Rattle.ln_node.specs.contracts.node_book.NodeBook as NodeBook
use Rattle.ln_node.specs.contracts.book.SharedBook as SharedBook

policy_send : IsSend Policy.the_row
policy_send = search sendable depth 9

use_send : IsSend Use.the_row
use_send = search sendable depth 12

handle_send : (O : RattleType) → IsSend O → IsSend (BookHandle.the_row O)
handle_send O o =
    declared_send (BookHandle.the_type O) (
      search sendable depth 8,
      (
        policy_send,
        (
          as_row_send (Option.the_field Use.the_row) (search (sendable, use_send) depth 8),
          (search sendable depth 9, tt),
        ),
      ),
    )

node_book_send : IsSend NodeBook.the_row
node_book_send =
    declared_send NodeBook.the_type
    (search (sendable, crosses, book.the_send) depth 9, (search (sendable, crosses) depth 9, tt))

node_book_sync : IsSync NodeBook.the_row
node_book_sync =
    declared_sync NodeBook.the_type
    (search (sendable, crosses, book.the_send) depth 9, (search (sendable, crosses) depth 9, tt))

pub shared_send : (O : RattleType) → IsSend O → IsSend (SharedBook.the_row O)
shared_send O o =
    declared_send (SharedBook.the_type O) (
      search (sendable, crosses, node_book_send, node_book_sync) depth 9,
      (
        handle_send O o,
        (
          search (sendable, crosses, own.the_send, own.the_sync) depth 9,
          (
            search (sendable, crosses, wakeups.the_send, wakeups.the_sync) depth 9,
            (
              search sendable depth 12,
              (
                search (sendable, crosses, notices.the_send, notices.the_sync) depth 9,
                (
                  search (sendable, crosses, observer.the_send, observer.the_sync) depth 9,
                  (
                    search (sendable, crosses, watch.the_send, watch.the_sync) depth 9,
                    (
                      search (sendable, crosses, peer.the_send, peer.the_sync) depth 9,
                      (search (sendable, crosses) depth 12, (search sendable depth 9, (search sendable depth 9, tt))),
                    ),
                  ),
                ),
              ),
            ),
          ),
        ),
      ),
    )
