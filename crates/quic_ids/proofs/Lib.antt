pub mod PeerIdSteps
pub mod OwnIdSteps
pub mod PeerIdLaws
pub mod OwnIdLaws
